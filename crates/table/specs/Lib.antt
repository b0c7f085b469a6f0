pub mod Table
pub mod Theorems
