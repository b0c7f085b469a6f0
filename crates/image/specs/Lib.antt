pub mod Read
pub mod RoundTrip
