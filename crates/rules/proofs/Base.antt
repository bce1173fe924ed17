-- Lists, tests and searches: what the libraries do not have.
pub mod Tests
pub mod AllLaws
pub mod Lists
pub mod Search
pub mod FoundLaws
pub mod EveryPlaces
pub mod LentParts
