pub mod Words
pub mod InlineSteps
pub mod Steps
pub mod Grammar
pub mod Bounds
pub mod OneReading
pub mod Sent
pub mod Cuts
mod CutMessages
