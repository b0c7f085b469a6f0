pub mod VainLaws
pub mod Coincide
