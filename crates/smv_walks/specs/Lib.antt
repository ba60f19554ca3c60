pub mod Passed
pub mod Walks
pub mod Demands
pub mod Given
