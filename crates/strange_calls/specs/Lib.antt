pub mod Strange
pub mod Theorems
