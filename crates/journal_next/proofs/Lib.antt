pub mod Reading
pub mod Theorems
pub mod Coincide
