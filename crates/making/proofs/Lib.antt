pub mod FreeSlots
pub mod WithinLaws
pub mod MadeLaws
pub mod SweptLaws
