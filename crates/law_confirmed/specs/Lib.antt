pub mod Confirmed
pub mod Answers
