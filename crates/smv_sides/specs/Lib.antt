pub mod Choices
pub mod Sides
pub use Rattle.smv_outcomes.specs.Outcomes
pub use Rattle.smv_outcomes.specs.Remembered
