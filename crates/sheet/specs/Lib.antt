pub mod Marked
pub mod Rowed
pub mod Candidates
