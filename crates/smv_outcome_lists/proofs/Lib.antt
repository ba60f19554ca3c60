pub mod CombinedLaws
pub mod PairLaws
pub mod ListLaws
pub mod ReadLaws
pub mod OrderLaws
