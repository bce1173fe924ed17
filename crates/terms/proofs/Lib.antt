pub mod PlanOf
pub mod Entries
pub mod Laid
pub mod CaseLaws
pub mod BackLaws
pub mod FieldLaws
