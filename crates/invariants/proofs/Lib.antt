pub mod Injective
pub mod Negotiations
pub mod Rising
pub mod WorkedHeaders
