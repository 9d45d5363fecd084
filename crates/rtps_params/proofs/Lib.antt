pub mod Steps
pub mod Grammar
