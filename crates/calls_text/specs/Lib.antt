pub mod Pieces
pub mod Reading
pub mod Theorems
pub mod Inner
