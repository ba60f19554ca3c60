use Rattle.std.proofs.Common.{◌≡◌, ◌++◌, map, drop}
use Rattle.std.specs.List.{flat_map}
use Rattle.smv_flatten.specs.Leaves.{leaves, leaf_of, binders_of}
use Rattle.smv_flatten.proofs.leaves.+leaves.Given as goal

abbrev pub invariant-all_leaves-loop-item : goal.invariant-all_leaves-loop-item
invariant-all_leaves-loop-item l = map leaf_of l.out.items ++ flat_map (leaves (binders_of l.around)) (drop l.item-index l.items) ≡ map leaf_of l.initial.out.items ++ flat_map (leaves (binders_of l.around)) l.items
