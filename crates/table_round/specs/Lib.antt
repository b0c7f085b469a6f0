pub mod Theorems
pub mod OnFile
