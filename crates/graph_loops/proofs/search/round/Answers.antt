use Rattle.std.proofs.Common.{arith}
use Rattle.graph_loops.specs.Walks.{lists}
use Rattle.graph_loops.proofs.RoundLaws.{turned-more, turned-all}
use Rattle.graph_loops.proofs.search.round.Goals as goal

pub loop-node-preserved : goal.loop-node-preserved
loop-node-preserved c =
    turned-more (lists c.args.graph.now) c.args.marks.now c.args.target c.args.steps c.loop-node.node c.loop-node.new.items c.push.new.self.items c.next_mark-mark.result c.loop-node.invariant c.next_mark-mark.ensures c.in_ok-push.ensures.items

pub returns : goal.returns
returns c =
    turned-all (lists c.args.graph.now) c.args.marks.now c.args.target c.args.steps c.loop-node.node c.loop-node.new.items (omega (arith, c.loop-node-test.false, c.loop-node.auto.node-end)) c.loop-node.invariant
