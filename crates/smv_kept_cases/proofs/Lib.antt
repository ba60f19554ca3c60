mod OldLaws
mod CaseLaws
pub mod LeafLaws
