pub mod First
pub mod Limits
pub mod Slots
