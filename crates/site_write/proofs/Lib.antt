pub mod Store
pub mod OneSite
pub mod Coincide
