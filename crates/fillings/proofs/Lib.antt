pub mod TestLaws
pub mod TallyLaws
pub mod FixedLaws
pub mod Gathering
pub mod LaidLaws
pub mod OffsetLaws
pub mod FilledLaws
pub mod GatheredLaws
