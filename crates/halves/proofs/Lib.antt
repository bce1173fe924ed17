pub mod Filling
pub mod PromiseLaws
mod PackPlaces
mod UnpackPairs
