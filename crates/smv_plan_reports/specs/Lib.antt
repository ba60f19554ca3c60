pub mod Numbers
pub use Rattle.smv_decide.specs.Leaves
pub use Rattle.law_valid_texts.specs.Reports
pub use Rattle.law_valid_texts.specs.Rooms
