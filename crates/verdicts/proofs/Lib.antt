pub mod VerdictLaws
pub mod Decides
