pub mod Rules
pub mod Forms
pub mod Productions
pub mod Texts
pub mod Counting
pub mod Whole
pub mod Lexed
