pub mod Alike
pub mod Forks
pub mod History
pub mod Laws
pub mod Example
