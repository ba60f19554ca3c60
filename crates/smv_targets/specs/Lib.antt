pub mod Targets
pub mod Offered
pub mod CellTargets
