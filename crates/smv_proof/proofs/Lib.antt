pub mod Lists
pub mod Numbers
mod Values
pub mod Lines
pub mod Pieces
mod FromLines
mod ToLines
pub mod Whole
pub mod Steps
mod Numbered
mod Current
