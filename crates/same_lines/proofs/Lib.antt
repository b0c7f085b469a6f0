pub mod Lines
pub mod Coincide
