pub mod ReadyLaws
mod OutputLaws
mod EndsLaws
pub mod FixedWrite
