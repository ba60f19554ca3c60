use Rattle.std.proofs.Common.{◌-◌}
use Rattle.bdd_store.specs.Diagram.{first_var}
use Rattle.smv_circuits.proofs.gates.+literal_of.Given as goal

-- the levels that are left
abbrev pub decreases-literal_of : goal.decreases-literal_of
decreases-literal_of l = l.store.now.vars - first_var l.store.now l.f
