pub mod Files
pub mod Laws
pub mod Example
