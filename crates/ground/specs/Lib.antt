pub mod Coincide
pub mod Pieces
pub mod Search
pub mod Alike
