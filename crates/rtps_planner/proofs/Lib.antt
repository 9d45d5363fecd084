pub mod Alone
mod Cuts
pub mod Merged
pub mod Spoken
mod Planned
mod Whole
pub mod Judged
pub mod Gathered
pub mod Adding
pub mod Gathering
mod Rising
pub mod Along
mod Bursts
mod Going
pub mod Passing
pub mod Stamping
