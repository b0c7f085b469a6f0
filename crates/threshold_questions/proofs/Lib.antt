pub mod Loaded
pub mod Coincide
