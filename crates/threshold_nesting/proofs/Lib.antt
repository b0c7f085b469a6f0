pub mod Ways
pub mod Saneness
pub mod Coincide
