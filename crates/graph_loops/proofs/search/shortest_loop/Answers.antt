use Rattle.std.proofs.Common.{arith}
use Rattle.graph_loops.specs.Walks.{lists}
use Rattle.graph_loops.proofs.Shortest.{among-none, among-more, among-all}
use Rattle.graph_loops.proofs.search.shortest_loop.Goals as goal

pub loop-target-init : goal.loop-target-init
loop-target-init c = among-none (lists c.args.graph.now) c.args.targets.now c.new-best.result.items c.new-best.ensures.items

pub loop-target-preserved : goal.loop-target-preserved
loop-target-preserved c =
    among-more (lists c.args.graph.now) c.args.targets.now c.loop-target.target-index c.loop-target.best.items c.in_ok-found.found.items c.shorter-best.result.items c.loop-target.invariant c.in_ok-found.ensures c.shorter-best.ensures

pub returns : goal.returns
returns c = among-all (lists c.args.graph.now) c.args.targets.now c.loop-target.target-index c.loop-target.best.items (omega (arith, c.loop-target-test.false, c.loop-target.auto.target-index-end)) c.loop-target.invariant
