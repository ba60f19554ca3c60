pub mod Renaming
pub mod Replacement
pub mod Laws
pub mod WorkedBytes
