pub mod Saneness
pub mod Ways
pub mod Coincide
