use Rattle.std.proofs.Common.{◌≡◌, ◌++◌, map, drop}
use Rattle.std.specs.List.{flat_map}
use Rattle.smv_core.specs.declared.flat.FlatPair.{FlatPair}
use Rattle.law_splits.specs.Leaves.{with_name}
use Rattle.smv_splits.specs.Renaming.{number_by}
use Rattle.smv_splits.specs.Links.{guard_by}
use Rattle.smv_splits.proofs.guards.add_pairs.Given as goal

abbrev pub invariant-loop-pair : goal.invariant-loop-pair
invariant-loop-pair l =
    l.out.items ++ flat_map (λ (pair : FlatPair). map (guard_by (number_by l.numbers) pair) (with_name l.new pair.right)) (drop l.pair-index l.pairs)
    ≡ l.initial.out.items ++ flat_map (λ (pair : FlatPair). map (guard_by (number_by l.numbers) pair) (with_name l.new pair.right)) l.pairs
