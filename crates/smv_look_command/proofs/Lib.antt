pub mod ByName
pub mod Taken
