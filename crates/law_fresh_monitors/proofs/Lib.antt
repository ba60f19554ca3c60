pub mod FreeNames
pub mod Plans
pub mod OldText
pub mod Alone
pub mod Whole
