pub mod WordsLaws
pub mod PiecesLaws
pub mod OnlyOne
