pub mod Crossing
pub mod Named
pub mod Presence
