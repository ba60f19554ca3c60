use Rattle.std.proofs.Common.{◌≡◌, ◌++◌, drop, map}
use Rattle.std.specs.List.{flat_map}
use Rattle.smv_core.specs.declared.flat.FlatPair.{FlatPair}
use Rattle.smv_look_lint.specs.Signals.{read_by}
use Rattle.smv_look_lint.proofs.signals.push_pairs.Given as goal

abbrev pub invariant-loop-pair : goal.invariant-loop-pair
invariant-loop-pair l = l.out.items ++ flat_map (λ (pair : FlatPair). read_by pair.left) (drop l.pair-index l.pairs) ≡ l.initial.out.items ++ flat_map (λ (pair : FlatPair). read_by pair.left) l.pairs
