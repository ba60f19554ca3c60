use Rattle.std.proofs.Common.{◌≡◌}
use Rattle.bdd_tests.proofs.memo.literals.Given as goal

abbrev pub invariant-loop-var : goal.invariant-loop-var
invariant-loop-var l = l.store.vars ≡ l.fn.store.vars
