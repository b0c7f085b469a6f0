pub mod Nest
pub mod Row
pub mod Lines
pub mod Words
pub mod Block
pub mod Sound
