pub mod MeaningLaws
pub mod PromiseLaws
pub mod SeenSteps
pub mod SeenLaws
