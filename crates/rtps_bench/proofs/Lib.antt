pub mod Counted
pub mod Holding
pub mod Parsed
pub mod Ranks
pub mod Written
