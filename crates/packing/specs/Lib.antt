pub mod Pack
pub mod Inner
