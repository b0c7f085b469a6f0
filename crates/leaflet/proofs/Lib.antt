pub mod Lengths
pub mod Coincide
