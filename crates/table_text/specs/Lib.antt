pub mod ShowText
