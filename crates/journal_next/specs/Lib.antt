pub mod Next
pub mod Theorems
