use Rattle.std.proofs.Common.{◌≡◌, ◌++◌, drop}
use Rattle.std.specs.List.{flat_map}
use Rattle.smv_mentions.specs.Scopes.{pieces}
use Rattle.smv_look_names.specs.Names as spec
use Rattle.smv_look_names.proofs.names.push_all.Given as goal

abbrev pub invariant-loop-place : goal.invariant-loop-place
invariant-loop-place l =
    l.out.items ++ flat_map (spec.first_in l.at (pieces l.tables.text.now)) (drop l.place (pieces l.tables.text.now))
    ≡ l.initial.out.items ++ flat_map (spec.first_in l.at (pieces l.tables.text.now)) (pieces l.tables.text.now)
