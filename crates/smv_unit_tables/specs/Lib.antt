pub mod Bases
pub mod Reads
pub mod Units
