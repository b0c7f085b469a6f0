pub mod BoundLaws
pub mod AskedLaws
pub mod KnownLaws
pub mod Coincide
