pub mod GivenLaws
pub mod OfferedLaws
pub mod AimLaws
pub mod TargetLaws
