pub mod MeasureLaws
pub mod PutLaws
pub mod LayingLaws
pub mod WalkLaws
pub mod WriteLaws
pub mod RunLaws
