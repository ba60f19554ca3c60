use Rattle.law_formula_trees.proofs.PlacedClaims.{claims-placed}
use Rattle.law_formula_trees.proofs.trees.claims_are_placed.Goals as goal

pub returns : goal.returns
returns c = claims-placed
