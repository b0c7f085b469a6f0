pub mod Fetching
pub mod Told
