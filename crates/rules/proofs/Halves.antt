-- Document 01, "Half bytes": what fields do with halves, what they permit, and from where each half of the output is taken.
pub mod HalvesLaws
pub mod SizeLaws
pub mod PlaceLaws
pub mod BytePlaces
pub mod ListedLaws
pub mod HalfBytes
pub mod PackHalves
pub mod PackLaws
pub mod RecordLaws
pub mod FieldSteps
pub mod SourceSteps
pub mod SourceWords
pub mod OutputWords
pub mod PermittedLaws
pub mod AllowedWords
pub mod FieldChecks
pub mod FieldTests
