use Rattle.std.proofs.Common.{◌≡◌, ◌++◌, drop}
use Rattle.std.specs.List.{flat_map}
use Rattle.smv_print.specs.Written.{written}
use Rattle.smv_print.specs.Canonical.{top_kinds}
use Rattle.smv_print.proofs.text.tops.Given as goal

abbrev pub invariant-loop-x : goal.invariant-loop-x
invariant-loop-x l = l.out.items ++ written (flat_map top_kinds (drop l.x-index l.all)) ≡ l.initial.out.items ++ written (flat_map top_kinds l.all)
