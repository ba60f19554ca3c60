pub mod Joins
pub mod Images
pub mod Backward
pub mod Ends
pub mod Walks
pub mod Found
