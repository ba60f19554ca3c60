pub mod Parts
pub mod Phrases
pub mod Translation
pub mod Answers
pub mod Laws
pub mod Worked
