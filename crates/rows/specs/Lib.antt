pub mod Flat
pub mod Kept
pub mod Fair
