pub mod Integers
pub mod Limits
