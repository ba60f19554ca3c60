pub mod Loops
pub mod SameName
