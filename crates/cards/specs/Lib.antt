pub mod Promise
pub mod Stops
pub mod Selected
pub mod Parameters
pub mod CardRefusals
pub mod Deck
