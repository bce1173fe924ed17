pub mod BlockParts
pub mod RecordLaws
pub mod TurnLaws
pub mod LayingLaws
pub mod WriteLaws
