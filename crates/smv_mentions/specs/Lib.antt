pub mod Mentions
pub mod Scopes
pub mod NameFaults
pub mod Sizes
pub mod FirstFault
pub mod Said
