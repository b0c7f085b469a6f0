pub mod Listed
pub mod Coincide
