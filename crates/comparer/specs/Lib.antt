pub mod Comparers
pub mod Lawful
