pub mod MarksLaws
pub mod PlaceLaws
pub mod StandsLaws
pub mod WalkLaws
pub mod AnswerLaws
pub mod SizesLaws
pub mod PromiseLaws
pub mod FixedLaws
