pub mod Configuration
pub mod Exchange
