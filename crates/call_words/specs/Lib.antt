pub mod Word
pub mod Grammar
