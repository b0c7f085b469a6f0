pub mod MakeText
