-- Document 02, order 5: key and data.
pub mod KeyLaws
pub mod Through
