pub mod Limits
pub mod Wire
