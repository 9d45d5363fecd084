pub mod Body
pub mod Listed
pub mod Notice
pub mod Reader
pub mod Standing
pub mod Status
pub mod Step
