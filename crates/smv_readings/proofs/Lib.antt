pub mod Spelling
pub mod ReadValues
pub mod Written
pub mod Loops
pub mod Logarithms
pub mod Counts
