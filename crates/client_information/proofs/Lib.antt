pub mod Given
pub mod ReadAgain
pub mod Rising
pub mod Sending
pub mod Worked
