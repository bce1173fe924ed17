pub mod Promise
pub mod Fixed
