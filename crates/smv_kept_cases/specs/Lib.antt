pub mod OldSets
pub mod Tried
