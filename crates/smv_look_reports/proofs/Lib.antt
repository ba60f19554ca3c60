pub mod CaseLaws
pub mod OrderLaws
pub mod Steps
mod AllowedLaws
