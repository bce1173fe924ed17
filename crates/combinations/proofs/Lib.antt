pub mod LineLaws
pub mod OutsideLaws
pub mod CombineLaws
