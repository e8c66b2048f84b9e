pub mod Information
pub mod Laws
pub mod Limits
pub mod Presence
