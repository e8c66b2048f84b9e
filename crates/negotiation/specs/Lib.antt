pub mod Laws
pub mod Limits
pub mod Packet
pub mod Parts
