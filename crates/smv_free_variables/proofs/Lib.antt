pub mod ReadingLaws
pub mod AlikeLaws
pub mod PlacelessLaws
pub mod PlaceLaws
pub mod KnownLaws
