pub mod Texts
pub mod Listed
pub mod Found
pub mod Opened
