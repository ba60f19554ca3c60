pub mod Worlds
pub mod Filled
