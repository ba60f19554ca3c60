use Rattle.std.proofs.Common.{◌≡◌, drop}
use Rattle.std.specs.List.{list_all}
use Rattle.smv_core.specs.declared.tree.Signed.{out-Signed}
use Rattle.smv_kinds.specs.Found.{is_constant}
use Rattle.smv_kinds.proofs.arguments.+constants.Given as goal

abbrev pub invariant-are_constant_summands-loop-x : goal.invariant-are_constant_summands-loop-x
invariant-are_constant_summands-loop-x l = list_all (λ x. is_constant (out-Signed x).of) (drop l.x-index l.more) ≡ list_all (λ x. is_constant (out-Signed x).of) l.more
