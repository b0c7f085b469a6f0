pub mod SetLaws
pub mod Load
pub mod Loaded
pub mod Coincide
