pub mod Transaction
pub mod Checks
