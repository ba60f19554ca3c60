pub mod Ready
pub mod Wired
pub mod Tried
