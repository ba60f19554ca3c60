use Rattle.std.proofs.Common.{◌-◌}
use Rattle.bdd_store.specs.Diagram.{first_var}
use Rattle.bdd_ops.proofs.questions.+value.Given as goal

-- the levels that are left
abbrev pub decreases-value : goal.decreases-value
decreases-value l = l.store.now.vars - first_var l.store.now l.f
