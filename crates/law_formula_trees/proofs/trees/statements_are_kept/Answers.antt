use Rattle.law_formula_trees.proofs.SameStatements.{statements-kept}
use Rattle.law_formula_trees.proofs.trees.statements_are_kept.Goals as goal

pub returns : goal.returns
returns c = statements-kept
