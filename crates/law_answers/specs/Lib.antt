pub mod Dues
pub mod Laws
pub mod OneAnswer
pub use Rattle.law_valid_texts.specs.Reports
pub use Rattle.law_valid_texts.specs.Plans
pub mod Confirmations
