pub mod Prefixes
pub mod Printed
pub mod Status
