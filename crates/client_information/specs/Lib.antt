pub mod ClientInformation
pub mod Parts
