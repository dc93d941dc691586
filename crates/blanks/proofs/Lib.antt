pub mod Fronts
pub mod Trims
