pub mod Answers
pub mod Coincide
