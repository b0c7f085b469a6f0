pub mod MissingText
pub mod Inner
