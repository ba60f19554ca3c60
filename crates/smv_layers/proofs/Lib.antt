pub mod FaultLaws
pub mod ExpressionLaws
pub mod PartLaws
pub mod LayerLaws
pub mod AgreeLaws
