use Rattle.std.proofs.Common.{◌≡◌, ◌++◌, map, drop}
use Rattle.law_designs.specs.Flattening.{flat_pair}
use Rattle.smv_flatten_families.specs.Held.{scope_here}
use Rattle.smv_flatten_statements.specs.Around.{around_of}
use Rattle.smv_flatten.proofs.goals.flat_pairs.Given as goal

abbrev pub invariant-loop-pair : goal.invariant-loop-pair
invariant-loop-pair l = l.flat ++ map (flat_pair (scope_here l.here) (around_of l.vars)) (drop l.pair-index l.pairs) ≡ map (flat_pair (scope_here l.here) (around_of l.vars)) l.pairs
