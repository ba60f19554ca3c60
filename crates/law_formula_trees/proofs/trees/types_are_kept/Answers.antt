use Rattle.law_formula_trees.proofs.SameTrees.{types-kept}
use Rattle.law_formula_trees.proofs.trees.types_are_kept.Goals as goal

pub returns : goal.returns
returns c = types-kept
