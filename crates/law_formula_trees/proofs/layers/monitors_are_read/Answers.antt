use Rattle.law_formula_trees.proofs.Within.{monitor-read}
use Rattle.law_formula_trees.proofs.layers.monitors_are_read.Goals as goal

pub returns : goal.returns
returns c = monitor-read
