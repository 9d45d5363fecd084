pub mod Sent
pub mod Silent
pub mod Spoken
