pub mod Entry
pub mod Kept
pub mod Checks
pub mod Freed
