use Rattle.std.proofs.Common.{sym, subst}
use Rattle.bdd_store.specs.Results.{AreResults}
use Rattle.bdd_store.proofs.results.Known.remember.Goals as goal

pub returns-clause-right : goal.returns-clause-right
returns-clause-right c d all is = c.put.ensures.right d (subst (AreResults d) (sym c.self.view_is) all) is
