pub mod HeaderLaws
pub mod FormLaws
pub mod RecordsLaws
pub mod ReelReads
pub mod ReelTold
pub mod OnlyOne
