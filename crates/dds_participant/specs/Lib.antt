pub mod Batch
pub mod Decode
pub mod HandOff
pub mod Handing
pub mod Kept
pub mod Ports
pub mod Publish
pub mod Readers
