pub mod CaseFaultLaws
pub mod PlanLaws
pub mod SortLaws
pub mod UnitLaws
