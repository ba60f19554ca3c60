mod Posed
pub mod LiveFunctions
