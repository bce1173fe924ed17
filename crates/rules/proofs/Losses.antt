-- The table of a plan: each loss with its reason, and the last field that reads a half or writes a position.
pub mod LossLaws
pub mod LastLaws
