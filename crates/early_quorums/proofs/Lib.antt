pub mod Reaching
pub mod EarlyLaws
pub mod Coincide
