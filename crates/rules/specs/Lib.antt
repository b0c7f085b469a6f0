pub mod State
pub mod Rules
pub mod Sound
pub mod Vote
pub mod Theorems
pub mod Inner
