pub mod Reading
pub mod Parameters
