pub mod Plain
pub mod Lines
pub mod Round
