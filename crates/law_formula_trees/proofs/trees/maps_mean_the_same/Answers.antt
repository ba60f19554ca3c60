use Rattle.law_formula_trees.proofs.Meant.{maps-meant}
use Rattle.law_formula_trees.proofs.trees.maps_mean_the_same.Goals as goal

pub returns : goal.returns
returns c = maps-meant
