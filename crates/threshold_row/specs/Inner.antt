-- A site's sets as a row of 63 numbers.
pub mod Row
pub mod Seen
