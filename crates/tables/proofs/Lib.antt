pub mod TableLaws
pub mod StoredLaws
pub mod OnlyOne
