mod DefinedLaws
pub mod StageLaws
mod TypeLaws
