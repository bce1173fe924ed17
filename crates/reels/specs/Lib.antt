pub mod Header
pub mod Records
