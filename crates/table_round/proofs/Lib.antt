pub mod Heard
pub mod Group
pub mod Line
pub mod Round
pub mod OnFile
