use Rattle.law_formula_texts.proofs.Whole.{spelled-exact}
use Rattle.law_formula_texts.proofs.laws.spelled_is_exact.Goals as goal

pub returns : goal.returns
returns c = spelled-exact
