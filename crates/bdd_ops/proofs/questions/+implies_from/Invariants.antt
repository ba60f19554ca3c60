use Rattle.std.proofs.Common.{◌+◌, ◌-◌}
use Rattle.bdd_store.specs.Diagram.{first_var}
use Rattle.bdd_ops.proofs.questions.+implies_from.Given as goal

-- the levels that are left
abbrev pub decreases-implies_from : goal.decreases-implies_from
decreases-implies_from l = l.store.now.vars - first_var l.store.now l.f + (l.store.now.vars - first_var l.store.now l.g)
