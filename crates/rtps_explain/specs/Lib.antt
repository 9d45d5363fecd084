pub mod Columns
pub mod Kinds
pub mod Words
pub mod Frame
pub mod Contents
pub mod Lines
pub mod Counts
pub mod Explained
