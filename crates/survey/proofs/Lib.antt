pub mod Takings
pub mod Filling
pub mod Weighing
pub mod Holding
pub mod Verdicts
pub mod Runs
pub mod Bare
