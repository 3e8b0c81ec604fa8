pub mod Asking
pub mod Watching
pub mod Transacting
pub mod Releasing
