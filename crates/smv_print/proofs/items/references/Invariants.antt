use Rattle.std.proofs.Common.{◌≡◌, ◌++◌, map, drop}
use Rattle.smv_core.specs.Signs.{comma}
use Rattle.smv_print.specs.Written.{written, preceded}
use Rattle.smv_print.specs.Items.{ref_kinds}
use Rattle.smv_print.proofs.items.references.Given as goal

abbrev pub invariant-loop-x : goal.invariant-loop-x
invariant-loop-x l = l.out.items ++ written (preceded comma (map ref_kinds (drop l.x-index l.more))) ≡ l.initial.out.items ++ written (preceded comma (map ref_kinds l.more))
