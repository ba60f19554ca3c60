use Rattle.std.proofs.Common.{◌≡◌, ◌++◌, map, drop}
use Rattle.law_splits.specs.Leaves.{named_by}
use Rattle.smv_splits.proofs.names.names_split.Given as goal

abbrev pub invariant-loop-split : goal.invariant-loop-split
invariant-loop-split l = l.names.items ++ map (λ split. named_by split.of) (drop l.split-index l.splits) ≡ map (λ split. named_by split.of) l.splits
