pub mod Numbered
pub mod Fronts
pub mod Lexing
pub mod Longest
pub mod Comments
