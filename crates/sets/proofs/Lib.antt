pub mod Laws
pub mod Lowest
pub mod Rising
pub mod Walk
pub mod Worked
