-- The laws of sets of sites, by subject.
pub mod Members
pub mod Subsets
pub mod Gather
pub mod Apart
pub mod AllBelow
pub mod Single
pub mod Size
pub mod Step
pub mod First
