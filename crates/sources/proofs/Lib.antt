pub mod Fields
pub mod Walk
pub mod FieldSources
pub mod AllFields
pub mod Seen
