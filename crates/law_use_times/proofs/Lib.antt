pub mod Lists
pub mod Turns
pub mod SameTimes
pub mod Walking
