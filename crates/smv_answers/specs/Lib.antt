pub use Rattle.law_answers.specs.Dues
pub use Rattle.law_answers.specs.Laws
pub use Rattle.law_answers.specs.Reports
pub use Rattle.law_answers.specs.Plans
