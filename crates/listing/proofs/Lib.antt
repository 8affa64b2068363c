pub mod Sizes
pub mod Longer
pub mod OneListing
mod Parts
mod Alike
mod Opens
mod Told
mod Outcomes
mod Files
pub mod FrontRead
pub mod Inputs
