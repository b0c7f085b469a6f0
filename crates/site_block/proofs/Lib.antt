pub mod Load
pub mod Block
pub mod Coincide
