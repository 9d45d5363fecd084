pub mod Together
mod Taking
mod Places
pub mod Balances
pub mod Crews
