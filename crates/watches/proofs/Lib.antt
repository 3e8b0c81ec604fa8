pub mod Bytes
pub mod Laws
pub mod Written
pub mod Kept
pub mod Good
