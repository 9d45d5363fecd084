pub mod Answered
pub mod Naming
pub mod ByRank
pub mod Dealt
pub mod Ranks
pub mod Stepped
pub mod Reached
pub mod OneOrder
mod Derived
pub mod Routed
pub mod Hearing
pub mod Moving
pub mod Quiet
pub mod Running
pub mod Places
pub mod Shown
pub mod Matched
pub mod Taking
pub mod Moved
pub mod Counting
pub mod Unheard
pub mod Heads
pub mod Turns
pub mod Rows
mod OrderSteps
mod OrderStart
