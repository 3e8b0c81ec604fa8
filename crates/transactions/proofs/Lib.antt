pub mod Parts
pub mod Laws
pub mod ChangeLaws
pub mod ChangeAdded
pub mod Written
pub mod ChangesKept
pub mod Kept
pub mod Good
