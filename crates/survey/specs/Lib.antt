pub mod Faults
pub mod Refusals
pub mod Surveyed
pub mod WellSurveyed
pub mod Laws
