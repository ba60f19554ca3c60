use Rattle.std.proofs.Common.{length, ap, ◌∙◌, subst, sym, arith}
use Rattle.graph_search.specs.Walks.{lists}
use Rattle.graph_search.proofs.ReverseLaws.{lists_long}
use Rattle.graph_components.specs.Components.{AreRoots}
use Rattle.graph_components.proofs.ComponentLaws.{are_components, roots_within}
use Rattle.graph_components.proofs.InnerLaws.{inner_is_graph, is_inner}
use Rattle.graph_components.proofs.checked.hold.Goals as goal

pub joined-requires-clause-graph : goal.joined-requires-clause-graph
joined-requires-clause-graph c =
    let is = is_inner c.args.labels.now (lists c.args.graph.now) (lists c.as_slice.result.now) (ap lists c.as_slice.ensures.value ∙ c.in_ok-inner.ensures) in
    inner_is_graph c.args.labels.now (lists c.args.graph.now) (lists c.as_slice.result.now) c.requires is

pub joined-requires-clause-roots : goal.joined-requires-clause-roots
joined-requires-clause-roots c =
    let is = is_inner c.args.labels.now (lists c.args.graph.now) (lists c.as_slice.result.now) (ap lists c.as_slice.ensures.value ∙ c.in_ok-inner.ensures) in
    let room = is.room in
    roots_within c.args.labels.now c.in_ok-roots.roots.items c.as_slice-2.result.now (length c.as_slice.result.now) c.in_ok-roots.ensures c.as_slice-2.ensures.value
    (omega (arith, c.if-labels-graph.false, room, lists_long c.args.graph.now, lists_long c.as_slice.result.now))

pub returns : goal.returns
returns c = λ yes.
    let is = is_inner c.args.labels.now (lists c.args.graph.now) (lists c.as_slice.result.now) (ap lists c.as_slice.ensures.value ∙ c.in_ok-inner.ensures) in
    are_components (lists c.args.graph.now) (lists c.as_slice.result.now) c.args.labels.now c.as_slice-2.result.now (omega (arith, c.if-labels-graph.false, lists_long c.args.graph.now)) (c.rises.ensures c.if-not-rises.false) is
    (subst (AreRoots c.args.labels.now) (sym c.as_slice-2.ensures.value) c.in_ok-roots.ensures) (c.in_ok-joined.ensures yes)
