-- Document 01, "The deck": lines, cards, what one card or parameter more says, limits, and what an accepted plan has.
pub mod LineLaws
pub mod ScanLaws
pub mod CardLaws
pub mod CardPlaces
pub mod CardSteps
pub mod ParameterSteps
pub mod LimitLaws
pub mod AcceptedLaws
