use Rattle.law_worlds.proofs.Filled.{case_filled}
use Rattle.law_worlds.proofs.laws.expressions_have_outcomes.Goals as goal

pub returns : goal.returns
returns c case well a e b = case_filled case well a e b
