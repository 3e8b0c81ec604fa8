-- The laws: what follows from the rule book for every history of calls. Read in this order.
pub mod History
pub mod Eagain
pub mod Refusals
pub mod Order
pub mod Soundness
pub mod Parents
pub mod Making
pub mod Gone
pub mod Heard
