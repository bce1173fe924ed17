pub mod Spots
pub mod Promise
