pub mod Tables
pub mod Truth
