pub mod Parts
pub mod Types
