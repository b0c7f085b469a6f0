pub mod Written
pub mod Width
pub mod Digits
pub mod Coincide
