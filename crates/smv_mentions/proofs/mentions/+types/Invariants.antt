use Rattle.std.proofs.Common.{◌≡◌, ◌++◌, map, drop}
use Rattle.std.specs.List.{flat_map}
use Rattle.smv_core.specs.declared.tree.Field.{out-Field}
use Rattle.smv_mentions.specs.Mentions.{in_type}
use Rattle.smv_mentions.specs.Said.{said}
use Rattle.smv_mentions.proofs.mentions.+types.Given as goal

abbrev pub invariant-field_types-loop-field : goal.invariant-field_types-loop-field
invariant-field_types-loop-field l =
    map said l.out.items ++ flat_map (λ field. in_type (out-Field field).of) (drop l.field-index l.fields) ≡ map said l.initial.out.items ++ flat_map (λ field. in_type (out-Field field).of) l.fields
