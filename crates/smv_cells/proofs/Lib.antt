pub mod CellLaws
pub mod SeenLaws
