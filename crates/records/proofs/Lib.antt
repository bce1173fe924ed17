mod CoverLaws
mod PutLaws
pub mod PromiseLaws
