pub mod Recursion
pub mod Limits
pub mod Constants
pub mod Place
pub mod Summary
pub mod Pass
