use Rattle.std.proofs.Common.{◌-◌}
use Rattle.bdd_store.specs.Diagram.{first_var}
use Rattle.bdd_ops.proofs.+change_from.Given as goal

-- the levels that are left
abbrev pub decreases-change_from : goal.decreases-change_from
decreases-change_from g l = l.store.now.vars - first_var l.store.now l.f
