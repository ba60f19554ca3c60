pub mod Keys
pub mod Sorted
pub mod Puts
