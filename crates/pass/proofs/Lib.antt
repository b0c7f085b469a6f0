pub mod Calls
pub mod Lawful
pub mod Turns
pub mod Coincide
