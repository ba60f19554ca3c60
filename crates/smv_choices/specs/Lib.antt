pub mod Answers
pub mod Held
pub mod Parts
pub mod Readings
