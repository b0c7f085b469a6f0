pub mod Verdicts
pub mod Decides
pub mod Inner
