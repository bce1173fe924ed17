pub mod Form
pub mod Pieces
