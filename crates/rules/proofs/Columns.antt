-- Document 02, order 1: the column of a refusal.
pub mod WordedLaws
pub mod WordColumns
pub mod AgainLaws
pub mod NumberColumns
pub mod NumberLimits
pub mod ColumnSteps
pub mod ColumnTable
