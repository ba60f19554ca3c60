use Rattle.law_formula_trees.proofs.Meant.{plans-of}
use Rattle.law_formula_trees.proofs.trees.plans_are_of_formulas.Goals as goal

pub returns : goal.returns
returns c = plans-of
