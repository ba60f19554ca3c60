use Rattle.std.proofs.Common.{◌≡◌, ◌++◌, drop}
use Rattle.smv_concrete.proofs.subjects.copy_params.Given as goal

abbrev pub invariant-loop-p : goal.invariant-loop-p
invariant-loop-p l = l.copies.items ++ drop l.p-index l.params ≡ l.params
