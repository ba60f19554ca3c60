use Rattle.law_formula_trees.proofs.Units.{exact}
use Rattle.law_formula_trees.proofs.trees.translation_is_exact.Goals as goal

pub returns : goal.returns
returns c = exact
