use Rattle.std.proofs.Common.{◌≡◌, ◌++◌, drop}
use Rattle.smv_copies.proofs.parts.copy_guards.Given as goal

abbrev pub invariant-loop-guard : goal.invariant-loop-guard
invariant-loop-guard l = l.copies ++ drop l.guard-index l.guards ≡ l.guards
