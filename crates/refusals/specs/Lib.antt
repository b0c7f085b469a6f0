pub mod Check
pub mod Refusal
pub mod First
