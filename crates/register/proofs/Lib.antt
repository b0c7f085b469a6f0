pub mod Rows
pub mod Coincide
