pub mod Bounds
pub mod Constants
pub mod Doubts
pub mod Held
pub mod Narrowing
pub mod Places
