pub mod Sheets
pub mod Replacing
pub mod Laws
pub mod Example
