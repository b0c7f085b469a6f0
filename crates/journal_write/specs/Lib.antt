pub mod Keep
pub mod Theorems
