pub mod Announced
pub mod Announcing
pub mod Found
pub mod Hearings
pub mod Readers
pub mod Speaker
pub mod Voice
