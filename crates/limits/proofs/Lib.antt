pub mod LimitLaws
pub mod OnlyOne
