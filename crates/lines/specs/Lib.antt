pub mod Meaning
pub mod Ordering
