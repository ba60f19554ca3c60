pub mod Around
pub mod Flattened
pub mod Turns
