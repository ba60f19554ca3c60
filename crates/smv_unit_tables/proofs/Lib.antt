pub mod Computing
pub mod ReadLaws
pub mod ExpressionLaws
pub mod PartLaws
pub mod BaseLaws
pub mod UnitLaws
