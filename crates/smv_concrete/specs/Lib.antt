pub mod Subjects
pub mod Parts
pub mod Counts
