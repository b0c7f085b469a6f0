pub mod Passes
pub mod Loops
pub mod AnyVote
