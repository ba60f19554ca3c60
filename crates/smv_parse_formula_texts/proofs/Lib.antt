mod Once
pub mod Answers
mod Only
