-- Document 01, "The reel": words, header, offsets, blocks by their places.
pub mod WordLaws
pub mod ReelLaws
pub mod HeaderSteps
pub mod ReelSteps
pub mod Bounds
pub mod BlockPlaces
