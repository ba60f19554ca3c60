use Rattle.std.proofs.Common.{◌≡◌, ◌++◌, drop}
use Rattle.std.specs.List.{flat_map}
use Rattle.smv_mentions.specs.Scopes.{pieces, constants}
use Rattle.smv_look_names.specs.Names as spec
use Rattle.smv_look_names.proofs.lists.push_listed.Given as goal

abbrev pub invariant-loop-word : goal.invariant-loop-word
invariant-loop-word l =
    l.out.items ++ flat_map (spec.listed_at l.at (constants (pieces l.tables.text.now)) l.names) (drop l.word-index l.names)
    ≡ l.initial.out.items ++ flat_map (spec.listed_at l.at (constants (pieces l.tables.text.now)) l.names) l.names
