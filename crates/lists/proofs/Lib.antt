pub mod Entries
pub mod Places
pub mod Turning
