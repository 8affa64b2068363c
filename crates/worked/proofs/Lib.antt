mod SevenNorms
pub mod Examples
pub mod Spelling
