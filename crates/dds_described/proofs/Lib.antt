mod JsonSteps
mod Texts
pub mod Fronts
pub mod Finds
pub mod Values
pub mod Sources
pub mod Copies
pub mod KeyParts
pub mod TopicKeys
pub mod Leasts
pub mod Shorts
pub mod Again
pub mod KeyLaw
pub mod Bodies
pub mod Rows
