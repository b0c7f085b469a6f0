pub mod Counting
pub mod Coincide
