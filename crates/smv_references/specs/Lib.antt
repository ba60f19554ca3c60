pub mod Again
pub mod Dots
