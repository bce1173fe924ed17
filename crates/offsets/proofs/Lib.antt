pub mod Sending
pub mod StepLaws
pub mod EachLaws
