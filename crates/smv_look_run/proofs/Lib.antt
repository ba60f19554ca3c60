pub mod Endings
pub mod PlanLaws
pub mod CaseLaws
pub mod DueLaws
pub mod ReportLaws
