pub mod Risk
pub mod Decides
pub mod Inner
