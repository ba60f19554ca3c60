use Rattle.std.proofs.Common.{refl}
use Rattle.bdd_store.specs.Diagram.{IsReduced}
use Rattle.bdd_store.specs.Results.{AreResults, diagram_of}
use Rattle.bdd_store.proofs.ResultLaws.{known_here}
use Rattle.bdd_store.proofs.Store.lend.Goals as goal

pub returns-clause-known : goal.returns-clause-known
unfolding IsReduced
returns-clause-known c =
    let d = diagram_of c.self.inside.vars c.self.inside.nodes.items in
    let was : AreResults d c.replace-results.result.items = rw c.replace-results.ensures.value c.self.invariant.known in
    known_here c.self.inside.vars c.self.inside.nodes.items _ _ c.self.invariant.reduced refl refl (c.widen.ensures d c.self.invariant.reduced was)
