pub mod Smallest
pub mod Equal
