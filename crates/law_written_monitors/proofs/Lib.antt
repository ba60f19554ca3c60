pub mod Names
pub mod Alone
pub mod Items
pub mod Left
