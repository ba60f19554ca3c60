pub mod TurnLaws
pub mod PlaceEquations
pub mod KindEquations
pub mod ExpressionEquations
pub mod StatementEquations
pub mod KindLaws
pub mod FaultLaws
