pub mod Checking
pub mod Coincide
