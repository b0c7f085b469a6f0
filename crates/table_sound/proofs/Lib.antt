pub mod Places
pub mod Rows
pub mod Steps
pub mod Sound
