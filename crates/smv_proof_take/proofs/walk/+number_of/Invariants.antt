use Rattle.std.proofs.Common.{◌-◌}
use Rattle.bdd_store.specs.Diagram.{first_var}
use Rattle.smv_proof_take.proofs.walk.+number_of.Given as goal

-- the levels that are left
abbrev pub decreases-number_of : goal.decreases-number_of
decreases-number_of l = l.store.now.vars - first_var l.store.now l.f
