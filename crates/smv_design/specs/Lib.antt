pub mod Parts
pub mod Groups
pub mod Told
pub mod Acts
pub mod Firsts
pub mod Definitions
