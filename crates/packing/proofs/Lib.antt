pub mod Coincide
pub mod Facts
pub mod Packing
pub mod Room
