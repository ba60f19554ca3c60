pub mod NamedLaws
pub mod ReadyLaws
