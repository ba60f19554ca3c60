use Rattle.std.proofs.Common.{subst}
use Rattle.bdd_store.specs.Diagram.{IsReduced}
use Rattle.bdd_store.proofs.Laws.{equal_refs}
use Rattle.bdd_store.proofs.Store.vars.Goals as goal

pub returns-clause-sound : goal.returns-clause-sound
unfolding IsReduced
returns-clause-sound c = subst IsReduced c.self.view_is c.self.invariant.reduced

pub returns-clause-canonical : goal.returns-clause-canonical
returns-clause-canonical c = equal_refs c.args.self.now (returns-clause-sound c)
