pub mod Walks
pub mod Searches
pub mod Reverse
