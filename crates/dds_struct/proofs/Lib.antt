pub mod Items
pub mod Texts
pub mod Rows
