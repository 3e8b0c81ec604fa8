pub mod Lent
pub mod Checks
