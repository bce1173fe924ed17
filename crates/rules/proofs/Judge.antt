-- Document 02, order 7: a reel from elsewhere.
pub mod AgreeBytes
pub mod JudgeAgree
pub mod JudgeRead
pub mod JudgeTable
pub mod JudgeLaws
pub mod JudgeSteps
