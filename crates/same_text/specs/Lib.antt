pub mod SameText
