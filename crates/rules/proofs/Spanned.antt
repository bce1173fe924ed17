-- Document 02, order 6: records that go over blocks.
pub mod SpannedFill
pub mod SpannedBlocks
pub mod SpannedTurns
pub mod SpannedRead
pub mod SpannedOutcome
pub mod SpannedSteps
pub mod SpannedMeasure
pub mod SpannedCounts
pub mod SpannedRuns
pub mod SpannedOut
pub mod SpannedFV
pub mod SpannedDeck
pub mod SpannedLaws
