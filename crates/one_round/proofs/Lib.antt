pub mod First
pub mod Places
pub mod Rounds
pub mod Sweeps
pub mod Coincide
