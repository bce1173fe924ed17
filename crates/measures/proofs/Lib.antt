pub mod FairLaws
pub mod SeekLaws
pub mod GoLaws
pub mod PromiseLaws
pub mod FixedSeek
pub mod FixedLaws
pub mod FixedMeasure
