pub mod Compatible
pub mod Defaults
pub mod Offering
pub mod Seen
pub mod Settings
pub mod Values
