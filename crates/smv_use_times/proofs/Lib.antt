pub mod ChosenLaws
pub mod TableLaws
pub mod SameTimeLaws
pub mod MarkLaws
pub mod UseLaws
pub mod TimeLaws
pub mod OrderLaws
