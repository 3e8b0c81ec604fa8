pub mod Meant
pub mod Framed
pub mod Handled
pub mod Does
