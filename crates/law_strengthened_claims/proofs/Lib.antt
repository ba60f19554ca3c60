pub mod Joined
pub mod Written
pub mod Replacing
pub mod RenamedForms
pub mod RenamedTokens
pub mod RenamedBytes
