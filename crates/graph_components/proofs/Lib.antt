pub mod ComponentLaws
pub mod InnerLaws
