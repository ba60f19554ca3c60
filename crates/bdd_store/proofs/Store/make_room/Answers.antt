use Rattle.std.proofs.Common.{refl, sym, ◌∙◌, subst, arith}
use Rattle.bdd_store.specs.Diagram.{IsReduced}
use Rattle.bdd_store.specs.contracts.Store.{the_view}
use Rattle.bdd_store.proofs.NodeLaws.{graph_extends, reduced_graph, graph_stays, same_stays, stays_from}
use Rattle.bdd_store.proofs.ResultLaws.{known_extends}
use Rattle.bdd_store.proofs.Puts.{counted_graph}
use Rattle.bdd_store.proofs.Store.make_room.Goals as goal

pub invariant_of-self : goal.invariant_of-self
unfolding IsReduced
invariant_of-self c =
    let is = c.self.invariant in
    let graph = c.grow-self-inside.ensures.same in
    record {
      reduced = reduced_graph _ _ _ is.reduced graph;
      chained = c.grow-self-inside.ensures.chained;
      few = omega (arith, graph.count, is.few);
      held_counted = is.held_counted ∙ sym (counted_graph _ _ _ graph);
      flags = is.flags ∙ sym graph.count;
      marks_counted = is.marks_counted;
      known = known_extends _ _ _ _ is.reduced (graph_extends _ _ _ graph) is.known;
    }

pub returns-then-len-clause-stays : goal.returns-then-len-clause-stays
unfolding IsReduced
returns-then-len-clause-stays c = stays_from (the_view c.self.inside) c.args.self.now _ c.self.view_is (graph_stays (the_view c.self.inside) _ c.self.invariant.reduced refl c.grow-self-inside.ensures.same refl)

pub returns-else-len-clause-stays : goal.returns-else-len-clause-stays
unfolding IsReduced
returns-else-len-clause-stays c = same_stays c.args.self.now c.args.self.now (subst IsReduced c.self.view_is c.self.invariant.reduced) refl refl refl
