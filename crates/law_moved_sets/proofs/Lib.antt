pub mod Filled
pub mod Moved
