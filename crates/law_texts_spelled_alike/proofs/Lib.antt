pub mod PlacelessStatements
pub mod Texts
pub mod Alike
