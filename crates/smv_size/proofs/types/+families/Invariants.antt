use Rattle.std.proofs.Common.{◌≡◌, List, take}
use Rattle.std.specs.List.{flat_map}
use Rattle.smv_core.specs.Values.{Name}
use Rattle.smv_core.specs.declared.tree.Field.{out-Field}
use Rattle.smv_mentions.specs.Sizes.{Sized, extents_of}
use Rattle.smv_size.specs.Summary.{families_told, types_told}
use Rattle.smv_size.proofs.types.+families.Given as goal

abbrev pub invariant-families_of_fields-loop-field : goal.invariant-families_of_fields-loop-field
invariant-families_of_fields-loop-field l =
    (known : List (Name × Sized)) → l.types ≡ types_told known → l.all ≡ families_told (flat_map (λ field. flat_map (λ word. extents_of known (out-Field field).of) (out-Field field).names) (take l.field-index l.fields))
