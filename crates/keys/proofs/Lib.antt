pub mod KeyLaws
pub mod OnlyOne
