pub mod Held
pub mod Least
pub mod Rising
pub mod RoundTrip
pub mod Worked
