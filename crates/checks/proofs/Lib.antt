pub mod RunLaws
pub mod GivenLaws
