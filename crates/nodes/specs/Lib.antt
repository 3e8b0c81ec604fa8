pub mod Answers
pub mod Sights
