pub mod Lexing
pub mod Answers
pub mod Longest
pub mod Comments
