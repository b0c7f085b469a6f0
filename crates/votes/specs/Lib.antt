pub mod Call
pub mod Passes
pub mod Vote
pub mod Inner
pub mod Theorems
