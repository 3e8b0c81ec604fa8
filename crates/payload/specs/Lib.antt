pub mod Strings
pub mod Cursor
pub mod Parts
pub mod Meaning
pub mod Answers
pub mod Kinds
