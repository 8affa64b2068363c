pub mod Written
pub mod Asked
pub mod OverTwins
pub mod Lines
pub mod Options
pub mod OnExamples
