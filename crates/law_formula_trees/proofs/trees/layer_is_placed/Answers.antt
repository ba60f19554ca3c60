use Rattle.law_formula_trees.proofs.PlacedStatements.{layer-placed}
use Rattle.law_formula_trees.proofs.trees.layer_is_placed.Goals as goal

pub returns : goal.returns
returns c = layer-placed
