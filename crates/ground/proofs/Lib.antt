pub mod Alike
pub mod Every
pub mod Least
pub mod Logic
pub mod Numbers
pub mod Pieces
pub mod Some
