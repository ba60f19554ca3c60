pub mod Progress
pub mod Tasks
pub mod Answers
