pub mod State
pub mod Coincide
