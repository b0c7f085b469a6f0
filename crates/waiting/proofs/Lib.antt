pub mod Places
pub mod Coincide
