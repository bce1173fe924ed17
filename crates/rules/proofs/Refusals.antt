-- Document 01, "Refusal numbers": answers, what each test finds, the table, and what callers are told.
pub mod AnswerLaws
pub mod Given
pub mod RunColumns
pub mod OrderOutcome
pub mod ParameterOutcome
pub mod CardsOutcome
pub mod BarrenOutcome
pub mod BlocksOutcome
pub mod Overfull
pub mod FitOutcome
pub mod FitWords
pub mod AskedTable
pub mod PlanTable
pub mod PlanSteps
pub mod RunTable
pub mod SaidLaws
