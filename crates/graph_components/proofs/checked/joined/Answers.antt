use Rattle.std.proofs.Common.{subst, sym, arith}
use Rattle.graph_search.specs.Walks.{lists}
use Rattle.graph_search.specs.Reverse.{IsReverse}
use Rattle.graph_search.proofs.ReverseLaws.{lists_long}
use Rattle.graph_components.proofs.ComponentLaws.{back_is_graph, is_joined}
use Rattle.graph_components.proofs.checked.joined.Goals as goal

pub all_found-requires-2-clause-graph : goal.all_found-requires-2-clause-graph
all_found-requires-2-clause-graph c =
    let reverse = subst (λ b. IsReverse (lists c.args.graph.now) (lists b)) (sym c.as_slice.ensures.value) c.in_ok-back.ensures in
    back_is_graph (lists c.args.graph.now) (lists c.as_slice.result.now) reverse

pub all_found-requires-2-clause-roots : goal.all_found-requires-2-clause-roots
all_found-requires-2-clause-roots c = λ x h.
    let within = c.requires.roots x h in
    let room = c.in_ok-back.ensures.room in
    let same = c.as_slice.ensures.len in
    omega (arith, within, room, same, lists_long c.args.graph.now, lists_long c.in_ok-back.back.items)

pub returns : goal.returns
returns c = λ yes.
    let reverse = subst (λ b. IsReverse (lists c.args.graph.now) (lists b)) (sym c.as_slice.ensures.value) c.in_ok-back.ensures in
    is_joined (lists c.args.graph.now) (lists c.as_slice.result.now) c.args.roots.now reverse (c.in_ok-found.ensures c.if-not-found.false) (c.in_ok-found_back.ensures yes)
