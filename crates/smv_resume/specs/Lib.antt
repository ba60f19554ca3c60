pub mod Units
pub mod Resumed
