pub mod Answers
pub mod Claims
pub mod Place
pub mod Names
