use Rattle.std.proofs.Common.{◌≡◌, ◌++◌, [], drop, map}
use Rattle.std.specs.List.{flat_map}
use Rattle.law_uses.specs.Choices as choices
use Rattle.smv_references.specs.Again.{same_key}
use Rattle.smv_choices.specs.Parts as parts
use Rattle.smv_choices.specs.Readings.{pair_of}
use Rattle.smv_look_uses.specs.Chosen.{same_before}
use Rattle.smv_look_uses.proofs.chosen.push_all_families.Given as goal

abbrev pub invariant-loop-x : goal.invariant-loop-x
invariant-loop-x l =
    l.out.items ++ flat_map (λ (of, leaf). same_before l.at same_key [] (parts.family_keys (choices.own_map l.tables.design.now l.units leaf) l.picks)) (map pair_of (drop l.x-index l.proved))
    ≡ l.initial.out.items ++ flat_map (λ (of, leaf). same_before l.at same_key [] (parts.family_keys (choices.own_map l.tables.design.now l.units leaf) l.picks)) (map pair_of l.proved)
