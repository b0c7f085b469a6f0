pub mod Laws
pub mod Seal
pub mod Coincide
