pub mod First
pub mod Settle
pub mod Coincide
pub mod Passed
