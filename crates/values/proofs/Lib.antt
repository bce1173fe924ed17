mod WalkLaws
mod CheckLaws
pub mod PromiseLaws
