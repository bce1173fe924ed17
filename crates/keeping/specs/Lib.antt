pub mod Marks
pub mod Promise
