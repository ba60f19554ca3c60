use Rattle.std.proofs.Common.{◌≡◌, ◌++◌, ◌+◌, map, drop}
use Rattle.law_splits.specs.Leaves.{numbered, bound_as}
use Rattle.smv_splits.proofs.params.add_new.Given as goal

abbrev pub invariant-loop-index : goal.invariant-loop-index
invariant-loop-index l =
    l.out.items ++ numbered (l.first + l.index) (map (bound_as l.split.bound) (drop l.index l.split.vars)) ≡ l.initial.out.items ++ numbered l.first (map (bound_as l.split.bound) l.split.vars)
