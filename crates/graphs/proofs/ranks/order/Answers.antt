use Rattle.std.proofs.Common.{sym, subst, arith}
use Rattle.graphs.specs.Graph.{lists}
use Rattle.graphs.specs.Ranks.{IsOrder}
use Rattle.graphs.proofs.HeldLaws.{length_held}
use Rattle.graphs.proofs.OrderLaws.{is_order}
use Rattle.graphs.proofs.ranks.order.Goals as goal

pub returns-then-not-branch : goal.returns-then-not-branch
returns-then-not-branch c =
    let graph = lists c.args.graph.now in
    let none = c.if-not-branch.true in
    let round = c.in_ok-place_all.ensures in
    subst (IsOrder graph) (sym (round.same_order none))
    (is_order graph c.rounds.placed.items c.rounds.order.items c.rounds.invariant (λ x l. round.settled none x (omega (arith, length_held c.args.graph.now))))
