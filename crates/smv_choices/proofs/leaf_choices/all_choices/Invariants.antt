use Rattle.std.proofs.Common.{◌≡◌, ◌++◌, map, drop}
use Rattle.smv_choices.specs.Readings as readings
use Rattle.smv_choices.specs.Readings.{reading}
use Rattle.smv_choices.proofs.leaf_choices.all_choices.Given as goal

abbrev pub invariant-loop-leaf : goal.invariant-loop-leaf
invariant-loop-leaf l = l.choices.items ++ map (readings.choice_of l.tables.design.now l.units (readings.proofs (map reading l.all))) (drop l.leaf-index l.leaves) ≡ map (readings.choice_of l.tables.design.now l.units (readings.proofs (map reading l.all))) l.leaves
