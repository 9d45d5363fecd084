pub mod Announced
pub mod Calls
pub mod Receiving
