pub mod Opened
pub mod Block
pub mod Coincide
