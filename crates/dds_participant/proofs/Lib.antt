mod Pairing
mod Returned
mod Taken
mod Decoding
mod Pieces
pub mod Giving
mod Dealing
mod Leaving
mod Counting
mod Places
mod Unattached
pub mod Onward
mod Finished
mod HandingOff
mod Publishing
pub mod Shown
