-- The operands of cards: readers, the texts that they read, and that they stop at the first byte with no way on.
pub mod ReaderLaws
pub mod ListLaws
pub mod NumberLaws
pub mod ItemLaws
pub mod ParameterLaws
pub mod LetterLaws
pub mod ChoiceLaws
pub mod Prompt
pub mod PromptNumber
pub mod PromptList
pub mod PromptChoice
pub mod PromptGrammar
pub mod GrammarLaws
