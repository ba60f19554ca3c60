pub mod Lists
pub mod TimeLaws
pub mod SpotLaws
pub mod InstanceLaws
pub mod TargetLaws
pub mod DemandLaws
pub mod ProblemLaws
