pub mod Tests
pub mod Turns
pub mod Search
pub mod Rows
pub mod Laws
pub mod FreeLaws
