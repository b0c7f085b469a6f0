pub mod Spread
pub mod Liveness
pub mod Complete
pub mod Witness
