pub mod JournalText
pub mod Theorems
