pub mod Meets
pub mod FieldMarks
pub mod Searches
pub mod Weighs
pub mod PlanLaws
