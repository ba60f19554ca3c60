pub mod ExpressionLaws
pub mod GatherLaws
pub mod ElementLaws
pub mod SetLaws
pub mod QuantifierLaws
pub mod AlikeLaws
pub mod KnownLaws
