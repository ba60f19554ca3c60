pub mod Written
pub mod Types
pub mod Expressions
pub mod Statements
pub mod Items
pub mod Canonical
