pub mod ReadLaws
pub mod FirstLaws
mod Order
mod PassedLaws
