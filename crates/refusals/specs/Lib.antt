pub mod Close
pub mod Reply
pub mod Rule
pub mod Table
pub mod Written
