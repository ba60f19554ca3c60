pub mod KnownLaws
pub mod Listing
pub mod PartEquations
pub mod SortLaws
pub mod StrayEquations
pub mod TruthLaws
