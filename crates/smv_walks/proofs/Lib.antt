pub mod ThereLaws
pub mod BoundLaws
pub mod SideLaws
pub mod PartLaws
pub mod GatherLaws
pub mod GivenLaws
pub mod StepLaws
pub mod DemandLaws
