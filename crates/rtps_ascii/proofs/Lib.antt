pub mod Appended
pub mod Kept
pub mod Decimals
