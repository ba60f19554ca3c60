pub mod NameLaws
pub mod AgainLaws
