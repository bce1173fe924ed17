pub mod LastLaws
pub mod LossLaws
pub mod Demands
