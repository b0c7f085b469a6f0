pub mod Load
pub mod Store
pub mod Coincide
