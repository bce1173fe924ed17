pub mod Tallying
pub mod Offsets
