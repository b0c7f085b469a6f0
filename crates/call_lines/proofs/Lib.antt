pub mod Said
pub mod Coincide
