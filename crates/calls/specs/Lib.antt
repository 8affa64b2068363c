pub mod Faults
pub mod Refusals
pub mod Offers
pub mod Histories
pub mod Laws
pub mod Example
