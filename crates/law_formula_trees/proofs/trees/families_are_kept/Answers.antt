use Rattle.law_formula_trees.proofs.SameTrees.{families-kept}
use Rattle.law_formula_trees.proofs.trees.families_are_kept.Goals as goal

pub returns : goal.returns
returns c = families-kept
