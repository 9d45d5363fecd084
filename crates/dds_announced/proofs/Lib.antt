mod Beginning
mod Events
mod Found
mod Joined
mod Keyed
mod Moving
pub mod Onward
mod Pairs
mod Peers
mod Taking
mod Together
