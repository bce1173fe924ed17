pub mod ReasonLaws
pub mod FairLaws
