use Rattle.std.proofs.Common.{◌≡◌, ◌++◌, drop, map}
use Rattle.std.specs.List.{flat_map}
use Rattle.smv_choices.specs.Readings.{reading}
use Rattle.smv_look_uses.specs.Chosen as spec
use Rattle.smv_look_uses.proofs.chosen.push_all_said.Given as goal

abbrev pub invariant-loop-x : goal.invariant-loop-x
invariant-loop-x l =
    l.out.items ++ flat_map (spec.said_before l.at l.tables.design.now l.units) (map reading (drop l.x-index l.all)) ≡ l.initial.out.items ++ flat_map (spec.said_before l.at l.tables.design.now l.units) (map reading l.all)
