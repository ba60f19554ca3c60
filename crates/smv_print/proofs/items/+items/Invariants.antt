use Rattle.std.proofs.Common.{◌≡◌, ◌++◌, drop}
use Rattle.std.specs.List.{flat_map}
use Rattle.smv_print.specs.Written.{written}
use Rattle.smv_print.specs.Items.{item_kinds}
use Rattle.smv_print.proofs.items.+items.Given as goal

abbrev pub invariant-items-loop-x : goal.invariant-items-loop-x
invariant-items-loop-x l = l.out.items ++ written (flat_map item_kinds (drop l.x-index l.all)) ≡ l.initial.out.items ++ written (flat_map item_kinds l.all)
