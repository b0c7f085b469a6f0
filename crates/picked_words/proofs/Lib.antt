pub mod PickedLaws
pub mod Coincide
