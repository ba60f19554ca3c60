pub mod LeftLaws
pub mod MentionLaws
pub mod PartLaws
pub mod Others
