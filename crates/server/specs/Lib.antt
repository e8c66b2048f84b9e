pub mod FirstFlight
pub mod Limits
