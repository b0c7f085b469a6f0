-- What the functions inside ask of a table.
pub mod Rows
pub mod AsRows
