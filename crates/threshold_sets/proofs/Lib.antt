pub mod Grows
pub mod Whole
pub mod Alike
pub mod Present
pub mod Ways
pub mod Exact
pub mod Examples
