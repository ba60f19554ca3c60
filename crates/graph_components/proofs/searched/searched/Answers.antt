use Rattle.std.proofs.Common.{arith}
use Rattle.graph_search.specs.Walks.{lists}
use Rattle.graph_search.proofs.ReverseLaws.{lists_long}
use Rattle.graph_components.proofs.ComponentLaws.{first_mates}
use Rattle.graph_components.proofs.searched.searched.Goals as goal

pub returns : goal.returns
returns c =
    let all = c.loop-node.invariant in
    first_mates (lists c.args.graph.now) c.loop-node.labels.items c.loop-node.node (omega (arith, all.few, c.loop-node-test.false, lists_long c.args.graph.now)) (omega (arith, all.room, c.loop-node.labels.ok.0)) all.each
