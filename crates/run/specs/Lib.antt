pub mod Run
pub mod Inner
pub mod Theorems
pub mod Examples
