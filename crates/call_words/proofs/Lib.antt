pub mod Words
pub mod Coincide
