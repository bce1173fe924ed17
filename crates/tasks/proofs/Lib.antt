pub mod LengthLaws
pub mod TaskLaws
