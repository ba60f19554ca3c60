use Rattle.std.proofs.Common.{◌≡◌, ◌++◌, [], ◌∷◌, map, drop}
use Rattle.smv_core.specs.declared.tree.Item.{Instance}
use Rattle.smv_flatten.specs.Leaves.{leaf_of, binders_of}
use Rattle.smv_flatten.proofs.leaves.instances.Given as goal

abbrev pub invariant-loop-name : goal.invariant-loop-name
invariant-loop-name l = map leaf_of l.out.items ++ map (λ word. (binders_of l.around, Instance (word ∷ []) l.of l.args 0)) (drop l.name-index l.names) ≡ map leaf_of l.initial.out.items ++ map (λ word. (binders_of l.around, Instance (word ∷ []) l.of l.args 0)) l.names
