pub mod Answers
pub mod Changes
pub mod Edits
pub mod Names
pub mod Planned
pub mod Plans
pub mod Rising
pub mod Writing
