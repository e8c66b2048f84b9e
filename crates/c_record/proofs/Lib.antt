pub mod Applied
pub mod Demand3
pub mod Handing
pub mod Journals
pub mod Lossless
pub mod OwnRecords
pub mod Records
