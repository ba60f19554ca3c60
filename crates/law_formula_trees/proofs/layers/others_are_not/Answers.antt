use Rattle.law_formula_trees.proofs.Within.{others}
use Rattle.law_formula_trees.proofs.layers.others_are_not.Goals as goal

pub returns : goal.returns
returns c = others
