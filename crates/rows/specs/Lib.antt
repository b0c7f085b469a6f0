pub mod Row
pub mod Inner
pub mod Site
