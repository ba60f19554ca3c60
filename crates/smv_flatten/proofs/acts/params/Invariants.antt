use Rattle.std.proofs.Common.{◌≡◌, ◌++◌, drop}
use Rattle.law_designs.specs.Flattening.{params_from}
use Rattle.smv_flatten_families.specs.Held.{scope_here}
use Rattle.smv_flatten.specs.Leaves.{binders_of}
use Rattle.smv_flatten.proofs.acts.params.Given as goal

abbrev pub invariant-loop-k : goal.invariant-loop-k
invariant-loop-k l = l.params ++ params_from (scope_here l.here) l.k (binders_of (drop l.k l.around)) ≡ params_from (scope_here l.here) 0 (binders_of l.around)
