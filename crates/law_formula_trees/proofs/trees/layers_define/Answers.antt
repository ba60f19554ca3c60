use Rattle.law_formula_trees.proofs.PlacedLayer.{layers-define}
use Rattle.law_formula_trees.proofs.trees.layers_define.Goals as goal

pub returns : goal.returns
returns c = layers-define
