use Rattle.std.proofs.Common.{◌≡◌, ◌++◌, map, drop}
use Rattle.smv_choices.proofs.readings.names_of_leaves.Given as goal

abbrev pub invariant-loop-leaf : goal.invariant-loop-leaf
invariant-loop-leaf l = l.names ++ map (λ leaf. leaf.name) (drop l.leaf-index l.leaves) ≡ map (λ leaf. leaf.name) l.leaves
