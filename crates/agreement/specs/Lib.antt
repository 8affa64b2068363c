pub mod Forms
pub mod Works
pub mod Agreeing
