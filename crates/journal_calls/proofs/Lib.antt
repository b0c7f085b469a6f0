pub mod Copying
pub mod Store
pub mod Coincide
