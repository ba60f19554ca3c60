pub mod ExpressionLaws
pub mod PlaceLaws
pub mod VarLaws
pub mod PathLaws
pub mod StatementLaws
pub mod TurnLaws
