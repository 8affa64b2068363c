pub mod Contents
pub mod Faults
pub mod Kinds
pub mod Reading
pub mod Wrong
pub mod Laws
pub mod Example
