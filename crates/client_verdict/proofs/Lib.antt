pub mod Applied
pub mod Judged
