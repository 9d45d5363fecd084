pub mod Gap
pub mod Words
pub mod Place
pub mod Operator
pub mod Names
pub mod Number
