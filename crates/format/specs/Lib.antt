pub mod Views
pub mod Kinds
pub mod Lent
