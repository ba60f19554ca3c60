pub mod Computing
pub mod Notes
pub mod TypeLaws
pub mod ExpressionLaws
pub mod StatementLaws
pub mod ItemLaws
