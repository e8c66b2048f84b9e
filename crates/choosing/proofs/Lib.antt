pub mod Chosen
pub mod Judged
pub mod Laws
pub mod Rising
pub mod Worked
