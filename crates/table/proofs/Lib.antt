pub mod Table
pub mod Exact
pub mod Coincide
