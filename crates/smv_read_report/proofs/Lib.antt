pub mod Cut
pub mod Last
pub mod Led
pub mod Refusals
