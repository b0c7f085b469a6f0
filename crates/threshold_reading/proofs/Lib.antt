pub mod Steps
pub mod Coincide
