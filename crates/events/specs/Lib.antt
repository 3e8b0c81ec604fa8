pub mod Records
pub mod Stores
pub mod Messages
