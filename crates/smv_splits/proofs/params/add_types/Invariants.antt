use Rattle.std.proofs.Common.{◌≡◌, ◌++◌, map, drop}
use Rattle.law_splits.specs.Leaves.{bound_as}
use Rattle.law_splits.specs.Chains.{new_types}
use Rattle.smv_splits.proofs.params.add_types.Given as goal

abbrev pub invariant-loop-word : goal.invariant-loop-word
invariant-loop-word l = l.out.items ++ map (λ word. (bound_as l.split.bound word).over) (drop l.word-index l.split.vars) ≡ l.initial.out.items ++ new_types l.split
