pub mod Spelling
pub mod Questions
pub mod Texts
pub mod Arguments
pub mod Examples
