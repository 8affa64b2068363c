pub mod Buffers
pub mod Runs
pub mod TrueFronts
pub mod Lookups
pub mod Walking
