pub mod FairLaws
pub mod VerdictLaws
pub mod DeckLaws
pub mod ReadLaws
pub mod FilledLaws
pub mod OnlyOne
pub mod Demand3
