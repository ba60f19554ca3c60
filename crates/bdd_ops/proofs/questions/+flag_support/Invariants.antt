use Rattle.std.proofs.Common.{◌-◌}
use Rattle.bdd_store.specs.Diagram.{first_var}
use Rattle.bdd_ops.proofs.questions.+flag_support.Given as goal

-- the levels that are left
abbrev pub decreases-flag_support : goal.decreases-flag_support
decreases-flag_support l = l.store.now.vars - first_var l.store.now l.f
