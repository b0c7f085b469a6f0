pub mod Sets
pub mod Voting
pub mod Runs
pub mod Files
pub mod Union
pub mod Entries
pub mod Never
pub mod Witnesses
