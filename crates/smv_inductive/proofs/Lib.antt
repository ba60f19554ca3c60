pub mod Loops
pub mod Means
pub mod Kept
pub mod Ordered
