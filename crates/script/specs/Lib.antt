pub mod Names
pub mod Grammar
