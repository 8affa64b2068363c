pub mod Inputs
pub mod Fronts
pub mod Blames
