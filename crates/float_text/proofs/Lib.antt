pub mod Numbers
pub mod Rounding
pub mod Layouts
