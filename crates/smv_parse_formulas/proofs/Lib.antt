mod Levels
mod Alone
mod Without
mod Marked
mod Loops
pub mod ByLaws
