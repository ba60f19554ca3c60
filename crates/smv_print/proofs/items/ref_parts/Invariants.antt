use Rattle.std.proofs.Common.{◌≡◌, ◌++◌, drop}
use Rattle.smv_print.specs.Written.{written}
use Rattle.smv_print.specs.Items.{ref_parts}
use Rattle.smv_print.proofs.items.ref_parts.Given as goal

abbrev pub invariant-loop-word : goal.invariant-loop-word
invariant-loop-word l = l.out.items ++ written (ref_parts (drop l.word-index l.path) l.rest) ≡ l.initial.out.items ++ written (ref_parts l.path l.initial.rest)
