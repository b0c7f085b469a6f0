pub mod StepWays
pub mod Coincide
