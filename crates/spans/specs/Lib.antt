pub mod Putting
pub mod Promise
