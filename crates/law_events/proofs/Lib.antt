pub mod Unique
pub mod Meaning
mod Row
