use Rattle.std.proofs.Common.{◌≡◌, ◌++◌, drop}
use Rattle.smv_expression_kinds.specs.Forms.{modules_in}
use Rattle.smv_expression_kinds.proofs.tables.modules_of.Given as goal

abbrev pub invariant-loop-place : goal.invariant-loop-place
invariant-loop-place l = l.modules ++ modules_in l.place (drop l.place l.tops) ≡ modules_in 0 l.tops
