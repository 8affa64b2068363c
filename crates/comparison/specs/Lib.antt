pub mod Treating
pub mod Turning
pub mod Agreed
pub mod Procedure
pub mod Deciding
pub mod Trying
pub mod Tracing
pub mod Trails
