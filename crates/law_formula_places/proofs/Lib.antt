pub mod Claims
pub mod Standing
pub mod Tokens
pub mod Refusals
pub mod Edits
