pub mod OutcomeLaws
pub mod NumberLaws
pub mod MemberLaws
pub mod ChoiceLaws
pub mod SideLaws
