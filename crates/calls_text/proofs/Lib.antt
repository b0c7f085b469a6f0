pub mod Cuts
pub mod Room
pub mod Right
pub mod Coincide
