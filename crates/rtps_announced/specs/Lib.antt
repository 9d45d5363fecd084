pub mod Announced
pub mod Standing
