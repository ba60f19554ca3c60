pub mod Writing
pub mod WrittenExpressions
pub mod Pieces
pub mod Claims
pub mod Reading
pub mod Definitions
