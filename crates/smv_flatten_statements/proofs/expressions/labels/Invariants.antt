use Rattle.std.proofs.Common.{◌≡◌, ◌++◌, map, drop}
use Rattle.smv_flatten_families.specs.Held.{scope_here}
use Rattle.smv_flatten_statements.specs.Around.{around_of}
use Rattle.smv_flatten_statements.specs.Flattened.{label_of}
use Rattle.smv_flatten_statements.proofs.expressions.labels.Given as goal

abbrev pub invariant-loop-label : goal.invariant-loop-label
invariant-loop-label l = l.flat ++ map (label_of (scope_here l.here) (around_of l.vars)) (drop l.label-index l.labels) ≡ map (label_of (scope_here l.here) (around_of l.vars)) l.labels
