pub mod EventBody
pub mod Views
pub mod Addressed
pub mod Context
pub mod Events
pub mod Outcomes
pub mod Counters
pub mod Running
