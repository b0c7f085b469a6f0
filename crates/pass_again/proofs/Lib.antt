pub mod Settled
pub mod Rounds
pub mod Unsent
