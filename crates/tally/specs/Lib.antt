pub mod Group
pub mod Makes
