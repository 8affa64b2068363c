pub mod Filed
pub mod Tabled
pub mod WellTabled
pub mod Placed
