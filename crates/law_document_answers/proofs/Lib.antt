pub mod Statuses
pub mod Verdicts
pub mod Alike
pub mod Old
mod One
mod Written
