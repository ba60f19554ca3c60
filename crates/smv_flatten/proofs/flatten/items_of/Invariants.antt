use Rattle.std.proofs.Common.{◌≡◌, ◌++◌, drop}
use Rattle.std.specs.List.{flat_map}
use Rattle.smv_flatten.specs.Items.{flat_met}
use Rattle.smv_flatten.proofs.flatten.items_of.Given as goal

abbrev pub invariant-loop-met : goal.invariant-loop-met
invariant-loop-met l = l.items.items ++ flat_map (flat_met l.numbers.text.now l.layers.names) (drop l.met-index l.all) ≡ flat_map (flat_met l.numbers.text.now l.layers.names) l.all
