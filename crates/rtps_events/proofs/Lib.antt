pub mod Batches
pub mod Printed
pub mod Rewritten
pub mod Rows
pub mod Run
