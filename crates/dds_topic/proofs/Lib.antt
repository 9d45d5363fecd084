pub mod Texts
pub mod ShapeReads
