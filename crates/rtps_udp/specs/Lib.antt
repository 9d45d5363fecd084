pub mod Addresses
pub mod Calls
pub mod Faults
pub mod Moments
pub mod Ports
pub mod Receiving
