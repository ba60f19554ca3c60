pub mod TextFault
pub use Rattle.smv_plans.specs.Plans
