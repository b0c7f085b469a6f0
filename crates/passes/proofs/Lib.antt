pub mod Going
pub mod Coincide
