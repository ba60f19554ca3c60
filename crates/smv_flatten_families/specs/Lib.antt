pub mod Paths
pub mod Lists
pub mod Simples
pub mod Types
pub mod Families
pub mod Held
pub mod Found
