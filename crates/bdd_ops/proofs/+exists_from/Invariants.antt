use Rattle.std.proofs.Common.{◌-◌}
use Rattle.bdd_store.specs.Diagram.{first_var}
use Rattle.bdd_ops.proofs.+exists_from.Given as goal

-- the levels that are left
abbrev pub decreases-exists_from : goal.decreases-exists_from
decreases-exists_from l = l.store.now.vars - first_var l.store.now l.f
