use Rattle.std.proofs.Common.{◌≡◌, ◌++◌, map, drop}
use Rattle.smv_core.specs.Signs.{comma}
use Rattle.smv_print.specs.Written.{written, preceded}
use Rattle.smv_print.specs.Items.{pair_kinds}
use Rattle.smv_print.proofs.items.pairs.Given as goal

abbrev pub invariant-loop-x : goal.invariant-loop-x
invariant-loop-x l = l.out.items ++ written (preceded comma (map pair_kinds (drop l.x-index l.more))) ≡ l.initial.out.items ++ written (preceded comma (map pair_kinds l.more))
