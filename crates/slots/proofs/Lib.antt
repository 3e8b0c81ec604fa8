pub mod Reading
pub mod Canonical
pub mod Put
pub mod Made
pub mod Numbers
pub mod LeftLaws
