pub mod Packets
pub mod Received
pub mod Rising
pub mod Worked
pub mod WithReserved
pub mod Writing
