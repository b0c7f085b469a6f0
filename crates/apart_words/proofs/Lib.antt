pub mod Turning
pub mod ApartLaws
pub mod Coincide
