pub mod Rising
pub mod Answers
pub mod Only
