use Rattle.std.proofs.Common.{◌≡◌, ◌+◌, ◌*◌, ◌++◌, map, drop}
use Rattle.std.specs.List.{flat_map}
use Rattle.smv_flatten_families.specs.Types.{behind, field_leaves, leaves}
use Rattle.smv_flatten_families.specs.Families.{in_place, stem_leaf}
use Rattle.smv_core.specs.declared.tree.Field.{out-Field}
use Rattle.smv_flatten_families.proofs.families.+families.Given as goal

abbrev pub invariant-add_fields-loop-field : goal.invariant-add_fields-loop-field
invariant-add_fields-loop-field l =
    map in_place l.out.items ++ map (stem_leaf l.stem) (flat_map (field_leaves l.types.simples.text.now l.place) (drop l.field-index l.fields))
    ≡ map in_place l.initial.out.items ++ map (stem_leaf l.stem) (flat_map (field_leaves l.types.simples.text.now l.place) l.fields)

abbrev pub invariant-add_field-loop-word : goal.invariant-add_field-loop-word
invariant-add_field-loop-word l =
    map in_place l.out.items ++ map (stem_leaf l.stem) (flat_map (λ word. map (behind word.name) (leaves l.types.simples.text.now l.place (out-Field l.field).of)) (drop l.word-index (out-Field l.field).names))
    ≡ map in_place l.initial.out.items ++ map (stem_leaf l.stem) (flat_map (λ word. map (behind word.name) (leaves l.types.simples.text.now l.place (out-Field l.field).of)) (out-Field l.field).names)

abbrev pub decreases-add_form : goal.decreases-add_form
decreases-add_form l = 4 * l.left

abbrev pub decreases-add_named : goal.decreases-add_named
decreases-add_named l = 4 * l.left + 1

abbrev pub decreases-add_array : goal.decreases-add_array
decreases-add_array l = 4 * l.left + 1

abbrev pub decreases-add_field : goal.decreases-add_field
decreases-add_field l = 4 * l.left + 2

abbrev pub decreases-add_fields : goal.decreases-add_fields
decreases-add_fields l = 4 * l.left + 3
