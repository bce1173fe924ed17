-- Document 01, "Blocks and records": words, sizes and records of input blocks, and which records are taken.
pub mod CodedWords
pub mod BlockWords
pub mod BlockSizes
pub mod BlockLaws
pub mod BlockSteps
pub mod RecordSteps
pub mod PieceLaws
pub mod TakenLaws
pub mod MarkedLaws
pub mod HeldLaws
pub mod EvenLaws
