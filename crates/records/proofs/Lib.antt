pub mod Coincide
pub mod Ended
