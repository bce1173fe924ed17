pub mod StepLaws
pub mod DeckLaws
pub mod LongLaws
pub mod SettledLaws
pub mod PromiseLaws
