pub mod Sizes
pub mod Sorting
pub mod Walking
