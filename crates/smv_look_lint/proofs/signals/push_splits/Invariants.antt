use Rattle.std.proofs.Common.{◌≡◌, ◌++◌, drop, map}
use Rattle.std.specs.List.{flat_map}
use Rattle.smv_look_lint.specs.Signals.{read_by_split}
use Rattle.smv_look_lint.proofs.signals.push_splits.Given as goal

abbrev pub invariant-loop-split : goal.invariant-loop-split
invariant-loop-split l = l.out.items ++ flat_map read_by_split (drop l.split-index l.splits) ≡ l.initial.out.items ++ flat_map read_by_split l.splits
