use Rattle.std.proofs.Common.{◌∙◌, subst, arith}
use Rattle.std.specs.List.{Contains}
use Rattle.graph_search.specs.Walks.{lists}
use Rattle.graph_search.proofs.ReverseLaws.{items_at, lists_long, reverse_more, reverse_all}
use Rattle.graph_search.proofs.reverse.reverse.Goals as goal

pub note_all-requires : goal.note_all-requires
note_all-requires c = λ x h.
    let same = c.as_slice.ensures.value ∙ items_at c.args.graph.now c.loop-node.node c.index-graph-node.result c.loop-node-test.true c.index-graph-node.is in
    let within = c.requires c.loop-node.node x (subst (λ l. Contains l x) same h) in
    omega (arith, within, c.loop-node.invariant.room, lists_long c.loop-node.back.items, c.loop-node.back.ok.0)

pub loop-node-preserved : goal.loop-node-preserved
loop-node-preserved c =
    reverse_more (lists c.args.graph.now) (lists c.loop-node.back.items) (lists c.note_all.new.back.items) c.loop-node.node c.as_slice.result.now
    (c.as_slice.ensures.value ∙ items_at c.args.graph.now c.loop-node.node c.index-graph-node.result c.loop-node-test.true c.index-graph-node.is) c.loop-node.invariant c.in_ok-note_all.ensures

pub returns : goal.returns
returns c = reverse_all (lists c.args.graph.now) (lists c.loop-node.back.items) c.loop-node.node (omega (arith, lists_long c.args.graph.now, c.loop-node-test.false)) c.loop-node.invariant
