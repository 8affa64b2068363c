pub mod Seven
pub mod Reading
