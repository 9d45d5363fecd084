pub mod Begun
pub mod Following
pub mod Telling
pub mod Counting
pub mod Stepping
pub mod Stopping
