pub mod ReadLaws
pub mod Filed
pub mod RoundTrip
pub mod Coincide
