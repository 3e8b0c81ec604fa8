pub mod Slot
pub mod Left
pub mod Written
