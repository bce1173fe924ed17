-- How output blocks are filled, in words and step by step.
pub mod FillLaws
pub mod FillSteps
pub mod FitSteps
pub mod EvenFilling
pub mod EvenBlocks
pub mod EvenOutput
pub mod OutBlockWords
pub mod FullBlocks
pub mod MeasureLaws
