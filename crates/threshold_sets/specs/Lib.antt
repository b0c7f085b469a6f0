pub mod Met
pub mod Check
