pub mod Normals
pub mod Sound
pub mod More
pub mod Marks
pub mod Replacing
pub mod Listing
pub mod Example
pub mod Standing
