pub mod Part
pub mod Theorems
pub mod Coincide
