pub mod Cdr
pub mod Reading
pub mod Writing
pub mod Following
pub mod Statements
