pub mod Decoded
pub mod Placing
pub mod Filed
