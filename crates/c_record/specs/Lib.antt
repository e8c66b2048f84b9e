pub mod Calls
pub mod Handing
pub mod Numbers
pub mod Records
pub mod Verdicts
