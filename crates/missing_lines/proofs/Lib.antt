pub mod Missing
pub mod Said
pub mod Coincide
