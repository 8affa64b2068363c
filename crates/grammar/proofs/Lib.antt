pub mod Lists
pub mod Options
pub mod Takes
pub mod Leftmost
pub mod Finds
pub mod Twins
pub mod Held
pub mod Runs
