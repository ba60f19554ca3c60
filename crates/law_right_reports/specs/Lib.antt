pub mod TextLaws
pub mod ReportLaws
