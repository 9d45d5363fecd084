pub mod EventLines
pub mod Line
pub mod Printed
