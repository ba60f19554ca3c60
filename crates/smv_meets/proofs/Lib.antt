pub mod Below
pub mod BitFunctions
pub mod Orders
