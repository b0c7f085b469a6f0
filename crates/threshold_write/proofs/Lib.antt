pub mod Store
pub mod Coincide
