pub mod RenamedLaws
pub mod ParamLaws
mod KindLaws
mod MisfitLaws
mod RightLaws
pub mod StandingLaws
mod StrayLaws
mod GuardLaws
mod LinkLaws
pub mod GroupLaws
mod LedLaws
mod LostLaws
