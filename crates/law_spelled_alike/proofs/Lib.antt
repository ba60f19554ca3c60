pub mod Combining
pub mod PlacelessForms
pub mod Expressions
pub mod Plain
pub mod Alike
