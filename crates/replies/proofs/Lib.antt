pub mod Payloads
pub mod FrameLaws
