pub mod Limits
pub mod Pairs
pub mod Reserved
pub mod Table
pub mod Version
pub mod Words
