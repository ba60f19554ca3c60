pub mod Writing
pub mod TypeLaws
pub mod ExpressionLaws
pub mod StatementLaws
pub mod ItemLaws
pub mod RefLaws
pub mod Ending
