use Rattle.std.proofs.Common.{◌≡◌, ◌++◌, drop}
use Rattle.std.specs.List.{flat_map}
use Rattle.smv_print.specs.Written.{written}
use Rattle.smv_print.specs.Statements.{stmt_kinds, arm_kinds}
use Rattle.smv_print.proofs.statements.+statements.Given as goal

abbrev pub invariant-statements-loop-x : goal.invariant-statements-loop-x
invariant-statements-loop-x l = l.out.items ++ written (flat_map stmt_kinds (drop l.x-index l.parts)) ≡ l.initial.out.items ++ written (flat_map stmt_kinds l.parts)

abbrev pub invariant-all_arms-loop-x : goal.invariant-all_arms-loop-x
invariant-all_arms-loop-x l = l.out.items ++ written (flat_map arm_kinds (drop l.x-index l.arms)) ≡ l.initial.out.items ++ written (flat_map arm_kinds l.arms)
