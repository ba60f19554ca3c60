use Rattle.std.proofs.Common.{◌-◌}
use Rattle.bdd_store.specs.Graph.{var_at}
use Rattle.bdd_store.proofs.visits.+visit.Given as goal

-- the levels that are left
abbrev pub decreases-visit : goal.decreases-visit
decreases-visit l = l.vars - var_at l.nodes.now l.r
