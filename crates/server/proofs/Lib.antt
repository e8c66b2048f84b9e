pub mod Barred
pub mod Flights
pub mod Injective
pub mod Repeated
pub mod Rising
pub mod Unseen
pub mod Worked
