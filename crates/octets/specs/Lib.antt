pub mod Numbers
pub mod Read
pub mod Places
pub mod Options
