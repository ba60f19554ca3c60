use Rattle.std.proofs.Common.{◌≡◌, ◌++◌, drop}
use Rattle.smv_expression_kinds.specs.Forms.{types_in}
use Rattle.smv_expression_kinds.proofs.tables.types_of.Given as goal

abbrev pub invariant-loop-place : goal.invariant-loop-place
invariant-loop-place l = l.types ++ types_in l.place (drop l.place l.tops) ≡ types_in 0 l.tops
