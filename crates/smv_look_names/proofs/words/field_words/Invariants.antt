use Rattle.std.proofs.Common.{◌≡◌, ◌++◌, drop}
use Rattle.std.specs.List.{flat_map}
use Rattle.smv_core.specs.declared.tree.Field.{out-Field}
use Rattle.smv_mentions.specs.Said.{words_at}
use Rattle.smv_look_names.proofs.words.field_words.Given as goal

abbrev pub invariant-loop-field : goal.invariant-loop-field
invariant-loop-field l = words_at l.out.items ++ flat_map (λ field. (out-Field field).names) (drop l.field-index l.fields) ≡ flat_map (λ field. (out-Field field).names) l.fields
