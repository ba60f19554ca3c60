pub mod Assignments
pub mod Walks
