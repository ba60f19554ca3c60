pub mod Renaming
pub mod Looked
pub mod Parts
pub mod Links
pub mod Groups
