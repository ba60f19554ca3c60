pub mod Functions
pub mod Memo
pub mod News
pub mod Grown
