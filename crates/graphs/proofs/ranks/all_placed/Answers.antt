use Rattle.std.proofs.Common.{subst, arith}
use Rattle.std.specs.List.{All}
use Rattle.std.proofs.lemmas.Grind.{common_steps}
use Rattle.std.proofs.lemmas.List.{take_all}
use Rattle.std.proofs.lemmas.List.Elements.{All-more}
use Rattle.graph_search.specs.Searches.{IsSeen}
use Rattle.graphs.proofs.ranks.all_placed.Goals as goal

pub loop-node-preserved : goal.loop-node-preserved
loop-node-preserved c = All-more (IsSeen c.args.placed.now) c.args.nodes.now c.loop-node.node-index 0 c.loop-node-test.true c.loop-node.invariant (grind (arith, common_steps))

pub returns : goal.returns
returns c = subst (All (IsSeen c.args.placed.now)) (take_all c.loop-node.node-index c.args.nodes.now c.loop-node-test.false) c.loop-node.invariant
