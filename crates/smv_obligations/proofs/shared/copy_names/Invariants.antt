use Rattle.std.proofs.Common.{◌≡◌, ◌++◌, drop}
use Rattle.smv_obligations.proofs.shared.copy_names.Given as goal

abbrev pub invariant-loop-numbers : goal.invariant-loop-numbers
invariant-loop-numbers l = l.copies ++ drop l.numbers-index l.names ≡ l.names
