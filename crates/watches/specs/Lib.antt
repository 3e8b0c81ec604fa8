pub mod Watch
pub mod Checks
