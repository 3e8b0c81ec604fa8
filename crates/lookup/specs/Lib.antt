pub mod Reach
pub mod Rights
pub mod Children
pub mod Walk
