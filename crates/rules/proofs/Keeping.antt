-- Demand 3: the lost place, what keeping says, and what it says of runs.
pub mod KeepingSteps
pub mod KeepingLaws
pub mod MarkLaws
pub mod ConvertsLaws
pub mod Twins
pub mod Demand3
pub mod Apart
pub mod Confused
