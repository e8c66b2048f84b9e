pub mod Common
pub mod Halves
pub mod Judging
pub mod Marks
pub mod Merging
pub mod Passing
pub mod Twice
