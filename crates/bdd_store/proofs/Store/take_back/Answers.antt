use Rattle.std.proofs.Common.{ap, sym, subst}
use Rattle.bdd_store.specs.Diagram.{Diagram, IsReduced}
use Rattle.bdd_store.specs.Results.{AreResults}
use Rattle.bdd_store.proofs.ResultLaws.{known_there}
use Rattle.bdd_store.proofs.Store.take_back.Goals as goal

pub invariant_of-self : goal.invariant_of-self
unfolding IsReduced
invariant_of-self c =
    let is = c.self.invariant in
    let d = c.args.self.now in
    let ok : IsReduced d = subst IsReduced c.self.view_is is.reduced in
    let same_vars = ap (λ (x : Diagram). x.vars) c.self.view_is in
    let same_nodes = ap (λ (x : Diagram). x.nodes) c.self.view_is in
    record {
      reduced = is.reduced;
      chained = is.chained;
      few = is.few;
      held_counted = is.held_counted;
      flags = is.flags;
      marks_counted = is.marks_counted;
      known = known_there c.self.inside.vars c.self.inside.nodes.items d c.known.inside.results.items ok same_vars same_nodes (subst (AreResults d) (sym c.known.view_is) c.requires);
    }
