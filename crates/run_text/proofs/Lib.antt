pub mod Ended
pub mod Coincide
