use Rattle.std.proofs.Common.{◌<◌, ◌+◌, Bool, sym, subst}
use Rattle.graphs.specs.Graph.{lists}
use Rattle.graphs.specs.Placed.{Came}
use Rattle.graphs.proofs.OrderLaws.{came_then, came_still}
use Rattle.graphs.proofs.ranks.place_all.Goals as goal
use Rattle.graphs.proofs.ranks.place_all.Goals.{then-branch, else-branch}

pub loop-node-preserved : goal.loop-node-preserved
loop-node-preserved c =
    let graph = lists c.args.graph.now in
    let placed = c.args.placed.now.items in
    let mid = c.loop-node.placed.items in
    let after = c.place.new.placed.items in
    let order = c.args.order.now.items in
    let longer = c.loop-node.order.items in
    let longest = c.place.new.order.items in
    let Goal = λ (came : Bool). Came graph (λ x. x < c.loop-node.node + 1) placed after order longest came in
    elim c.if-branch.branch [
      | then-branch w ↦ subst Goal (sym w.came-is) (came_then graph c.loop-node.node placed mid after order longer longest c.loop-node.came c.in_ok-place.field-0 c.loop-node.invariant c.in_ok-place.ensures w.if-branch.true)
      | else-branch w ↦ subst Goal (sym w.came-is) (came_still graph c.loop-node.node placed mid after order longer longest c.loop-node.came c.in_ok-place.field-0 c.loop-node.invariant c.in_ok-place.ensures w.if-branch.false)
    ]
