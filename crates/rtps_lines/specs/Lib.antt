pub mod Entry
pub mod Guid
pub mod Sample
pub mod Notice
pub mod Locators
pub mod Answer
pub mod Summary
pub mod Shown
