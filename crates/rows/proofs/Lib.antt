pub mod Examples
pub mod Row
pub mod Site
pub mod Coincide
