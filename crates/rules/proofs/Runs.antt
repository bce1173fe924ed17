-- A run over a plan: its parts, what cannot happen, what it took, and what reads back.
pub mod RunParts
pub mod Never
pub mod CopyLaws
pub mod ReadBack
pub mod TakenRecords
pub mod OneRecord
pub mod ShortBlockLaws
