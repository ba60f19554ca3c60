pub mod ClaimLaws
pub mod PlaceLaws
pub mod TokenLaws
pub mod NameLaws
pub mod AnswerLaws
