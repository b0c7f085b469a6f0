pub mod Missing
pub mod Theorems
pub mod Inner
