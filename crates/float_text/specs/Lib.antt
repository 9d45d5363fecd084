pub mod Digits
pub mod Held
pub mod Shortest
pub mod Layout
pub mod Text
