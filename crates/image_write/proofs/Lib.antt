pub mod WriteLaws
pub mod Coincide
