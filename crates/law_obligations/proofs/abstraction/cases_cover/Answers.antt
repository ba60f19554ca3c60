use Rattle.law_obligations.proofs.CoverCases.{cases_cover}
use Rattle.law_obligations.proofs.abstraction.cases_cover.Goals as goal

pub returns : goal.returns
returns c n treatments apart treated params indexed values typed = cases_cover n treatments apart treated params indexed values typed
