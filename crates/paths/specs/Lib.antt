pub mod Classes
pub mod Machine
pub mod Form
pub mod Names
pub mod Full
