pub mod Beside
pub mod Codes
pub mod Parts
