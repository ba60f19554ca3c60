use Rattle.law_formula_trees.proofs.Within.{defined}
use Rattle.law_formula_trees.proofs.layers.monitors_are_defined.Goals as goal

pub returns : goal.returns
returns c = defined
