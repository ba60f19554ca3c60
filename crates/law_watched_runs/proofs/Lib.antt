pub mod Along
pub mod SamePaths
pub mod Extended
pub mod Extending
pub mod Transfer
pub mod Maps
