pub mod Functions
pub mod Lists
pub mod Paths
pub mod Schedule
pub mod Ops
pub mod Laws
