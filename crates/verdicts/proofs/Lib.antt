pub mod BlockLaws
pub mod SpanLaws
pub mod DeckLaws
