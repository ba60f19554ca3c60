use Rattle.std.proofs.Common.{◌≡◌, ◌+◌, ◌-◌, ◌*◌, ◌++◌, [], ◌∷◌, map, drop}
use Rattle.std.specs.List.{flat_map}
use Rattle.smv_flatten_families.specs.Paths.{path_of}
use Rattle.smv_flatten_families.specs.Families.{in_place, instance_places, item_places}
use Rattle.smv_flatten_families.proofs.families.+instances.Given as goal

abbrev pub invariant-add_instance-loop-item : goal.invariant-add_instance-loop-item
invariant-add_instance-loop-item l =
    map in_place l.out.items ++ flat_map (item_places l.types.simples.text.now (l.left - 1) (path_of l.here)) (drop l.item-index l.item-items)
    ≡ map in_place l.initial.out.items ++ flat_map (item_places l.types.simples.text.now (l.left - 1) (path_of l.here)) l.item-items

abbrev pub invariant-add_instances-loop-word : goal.invariant-add_instances-loop-word
invariant-add_instances-loop-word l =
    map in_place l.out.items ++ flat_map (λ word. instance_places l.types.simples.text.now l.left (path_of l.here ++ word.name ∷ []) l.name.name) (drop l.word-index l.words)
    ≡ map in_place l.initial.out.items ++ flat_map (λ word. instance_places l.types.simples.text.now l.left (path_of l.here ++ word.name ∷ []) l.name.name) l.words

abbrev pub decreases-add_instance : goal.decreases-add_instance
decreases-add_instance l = 4 * l.left

abbrev pub decreases-add_inner : goal.decreases-add_inner
decreases-add_inner l = 4 * l.left + 1

abbrev pub decreases-add_instances : goal.decreases-add_instances
decreases-add_instances l = 4 * l.left + 2

abbrev pub decreases-add_item : goal.decreases-add_item
decreases-add_item l = 4 * l.left + 3
