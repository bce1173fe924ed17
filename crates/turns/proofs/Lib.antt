pub mod TurnsLaws
pub mod ReadingLaws
pub mod SpannedTold
pub mod OnlyOne
