pub mod Length
pub mod Rows
pub mod Exact
pub mod Coincide
