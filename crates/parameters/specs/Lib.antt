pub mod Items
pub mod Laws
pub mod Limits
pub mod Reading
pub mod Sequence
pub mod Writing
