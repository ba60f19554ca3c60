use Rattle.std.proofs.Common.{◌<◌, ◌≤◌, arith}
use Rattle.graph_loops.specs.Marks.{steps_of}
use Rattle.graph_loops.proofs.FollowLaws.{front-begun, front-more, front-over}
use Rattle.graph_loops.proofs.search.followed.Goals as goal

pub loop-turn-init : goal.loop-turn-init
loop-turn-init c = λ graph target most m l. front-begun graph target most c.args.marks.now c.args.node m l c.new-places.result.items c.new-places.ensures.items

pub loop-turn-preserved : goal.loop-turn-preserved
loop-turn-preserved c = λ graph target most m l.
    let few : c.loop-turn._turn < steps_of c.args.marks.now c.args.node = omega (arith, c.loop-turn-test.true, c.steps_of-turn-end.ensures) in
    front-more graph target most c.args.marks.now c.args.node m l c.loop-turn._turn c.loop-turn.at c.loop-turn.places.items (c.loop-turn.invariant graph target most m l) c.edge_at-edge.result c.edge_at-edge.ensures few c.push.new.self.items c.in_ok-push.ensures.items

pub returns : goal.returns
returns c = λ graph target most m l.
    let all : steps_of c.args.marks.now c.args.node ≤ c.loop-turn._turn = omega (arith, c.loop-turn-test.false, c.steps_of-turn-end.ensures) in
    front-over graph target most c.args.marks.now c.args.node m l c.loop-turn._turn c.loop-turn.at c.loop-turn.places.items (c.loop-turn.invariant graph target most m l) c.edge_at.result c.edge_at.ensures all c.push-2.new.self.items c.in_ok-push-2.ensures.items
