pub mod Sound
pub mod One
pub mod Statuses
