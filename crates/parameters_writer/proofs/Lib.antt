pub mod Contents
pub mod Judging
pub mod Runs
pub mod Turns
