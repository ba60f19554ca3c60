use Rattle.law_formula_trees.proofs.Meant.{meant}
use Rattle.law_formula_trees.proofs.trees.claims_mean_formulas.Goals as goal

pub returns : goal.returns
returns c = meant
