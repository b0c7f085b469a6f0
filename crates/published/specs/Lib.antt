pub mod Sets
pub mod Voting
pub mod Files
pub mod Union
pub mod Witnesses
