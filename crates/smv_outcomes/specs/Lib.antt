pub mod Outcomes
pub mod Remembered
