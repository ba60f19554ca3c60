pub mod Pairs
pub mod Lists
pub mod Reads
pub mod Orders
