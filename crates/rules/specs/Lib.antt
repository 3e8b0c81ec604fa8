-- The rule book: document 01 as definitions that compute. Read in this order.
pub mod Size
pub mod Octets
pub mod Domain
pub mod Path
pub mod Entries
pub mod Node
pub mod Rights
pub mod Payload
pub mod Answer
pub mod Event
pub mod Layout
pub mod Sound
pub mod World
pub mod Call
pub mod Message
pub mod Worked
