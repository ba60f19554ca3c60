pub mod States
pub mod Defined
pub mod First
