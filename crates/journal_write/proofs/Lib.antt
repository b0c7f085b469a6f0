pub mod Keep
pub mod Theorems
pub mod Coincide
