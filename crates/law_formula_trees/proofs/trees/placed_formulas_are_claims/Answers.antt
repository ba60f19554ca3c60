use Rattle.law_formula_trees.proofs.Joined.{placed-claims}
use Rattle.law_formula_trees.proofs.trees.placed_formulas_are_claims.Goals as goal

pub returns : goal.returns
returns c = placed-claims
