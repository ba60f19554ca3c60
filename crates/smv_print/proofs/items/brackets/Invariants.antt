use Rattle.std.proofs.Common.{◌≡◌, ◌++◌, drop}
use Rattle.std.specs.List.{flat_map}
use Rattle.smv_print.specs.Written.{written}
use Rattle.smv_print.specs.Items.{bracket}
use Rattle.smv_print.proofs.items.brackets.Given as goal

abbrev pub invariant-loop-word : goal.invariant-loop-word
invariant-loop-word l = l.out.items ++ written (flat_map bracket (drop l.word-index l.names)) ≡ l.initial.out.items ++ written (flat_map bracket l.names)
