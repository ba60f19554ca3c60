use Rattle.std.proofs.Common.{◌≡◌, ◌++◌, ◌+◌, map, drop}
use Rattle.law_splits.specs.Leaves.{numbered, nameless}
use Rattle.smv_splits.proofs.params.nameless_params.Given as goal

abbrev pub invariant-loop-index : goal.invariant-loop-index
invariant-loop-index l = l.params.items ++ numbered l.index (map nameless (drop l.index l.types)) ≡ numbered 0 (map nameless l.types)
