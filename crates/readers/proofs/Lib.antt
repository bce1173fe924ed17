pub mod Digits
pub mod Parts
pub mod NumberPlaces
pub mod Parameters
pub mod Items
pub mod OnlyOne
pub mod TextPlaces
pub mod Callers
