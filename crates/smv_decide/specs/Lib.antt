pub mod Decisions
pub mod Tasks
pub mod Leaves
pub mod Tries
