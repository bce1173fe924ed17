pub mod PlanLaws
pub mod RunLaws
pub mod Demands
