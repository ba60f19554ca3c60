pub mod Going
pub mod Expressions
pub mod Formulas
pub mod Spelled
