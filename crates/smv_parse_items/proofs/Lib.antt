pub mod Loops
pub mod Marked
pub mod Names
pub mod ByLaws
