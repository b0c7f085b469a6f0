pub mod Le
