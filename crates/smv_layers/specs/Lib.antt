pub mod Leaks
pub mod OneBase
