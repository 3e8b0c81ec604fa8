pub mod Kinds
pub mod Place
pub mod Served
