use Rattle.std.proofs.Common.{arith}
use Rattle.std.proofs.lemmas.List.Elements.{Contains-get_or}
use Rattle.graph_search.proofs.SearchLaws.{saw_none, saw_more, saw_all}
use Rattle.graph_search.proofs.search.see_all.Goals as goal

pub see-requires : goal.see-requires
see-requires c = let within = c.requires _ (Contains-get_or c.args.nodes.now c.loop-node.node-index 0 c.loop-node-test.true) in
    omega (arith, within, c.loop-node.invariant.room, c.args.seen.now.ok.0, c.loop-node.seen.ok.0)

pub loop-node-init : goal.loop-node-init
loop-node-init c = saw_none c.args.seen.now.items c.args.queue.now.items

pub loop-node-preserved : goal.loop-node-preserved
loop-node-preserved c =
    saw_more c.args.nodes.now c.loop-node.node-index c.args.seen.now.items c.loop-node.seen.items c.see.new.seen.items c.args.queue.now.items c.loop-node.queue.items c.see.new.queue.items
    c.loop-node-test.true c.loop-node.invariant c.in_ok-see.ensures

pub returns : goal.returns
returns c = saw_all c.args.nodes.now c.loop-node.node-index c.args.seen.now.items c.loop-node.seen.items c.args.queue.now.items c.loop-node.queue.items c.loop-node-test.false c.loop-node.invariant
