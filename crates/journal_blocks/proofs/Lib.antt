pub mod Pieces
pub mod Journal
pub mod Coincide
