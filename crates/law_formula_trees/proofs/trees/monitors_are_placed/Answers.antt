use Rattle.law_formula_trees.proofs.PlacedFamilies.{monitors-placed}
use Rattle.law_formula_trees.proofs.trees.monitors_are_placed.Goals as goal

pub returns : goal.returns
returns c = monitors-placed
