pub mod Padding
pub mod Related
pub mod Counted
pub mod Structs
pub mod Texts
pub mod Written
pub mod Again
pub mod Sequences
