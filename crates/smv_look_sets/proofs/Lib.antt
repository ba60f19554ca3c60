pub mod SoughtLaws
pub mod PlaceLaws
mod LineLaws
