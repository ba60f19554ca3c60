use Rattle.law_formula_trees.proofs.SameClaims.{claims-translated}
use Rattle.law_formula_trees.proofs.trees.claims_are_translated.Goals as goal

pub returns : goal.returns
returns c = claims-translated
