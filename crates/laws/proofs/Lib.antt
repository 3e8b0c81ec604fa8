-- What the laws' statements rest on, and their proofs.
pub mod Kept
pub mod Answers
pub mod Step
pub mod Calls
pub mod Eagain
pub mod Refusals
pub mod Order
pub mod Ordered
pub mod SoundRequests
pub mod SoundCalls
pub mod Parents
pub mod Making
pub mod Gone
pub mod Records
pub mod Created
pub mod Heard
