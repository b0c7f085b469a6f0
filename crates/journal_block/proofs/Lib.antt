pub mod Block
pub mod Coincide
