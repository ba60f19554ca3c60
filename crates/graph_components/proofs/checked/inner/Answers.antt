use Rattle.std.proofs.Common.{get_or, ap, ◌∙◌}
use Rattle.graph_search.specs.Walks.{lists}
use Rattle.graph_components.specs.Inner.{alike, inner}
use Rattle.graph_components.proofs.InnerLaws.{one_node}
use Rattle.graph_components.proofs.checked.inner.Goals as goal

pub loop-node-preserved : goal.loop-node-preserved
loop-node-preserved c =
    let labels = c.args.labels.now in
    one_node labels c.args.graph.now c.loop-node.node c.index-graph-node.result c.in_ok-alike.field-0 c.loop-node.inner.items c.push.new.self.items (inner labels 0 (lists c.args.graph.now)) c.loop-node-test.true c.index-graph-node.is
    (c.in_ok-alike.ensures ∙ (ap (λ l. alike labels l c.as_slice.result.now) c.label.ensures ∙ ap (alike labels (get_or labels c.loop-node.node 0)) c.as_slice.ensures.value))
    c.in_ok-push.ensures.items c.loop-node.invariant
