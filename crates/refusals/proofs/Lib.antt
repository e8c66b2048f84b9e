pub mod Codes
pub mod Injective
pub mod Rising
pub mod Rules
