use Rattle.std.proofs.Common.{◌≡◌, ◌<◌, true, false, length, set, get_or, sym, subst, ◌∙◌, arith}
use Rattle.std.specs.List.{All}
use Rattle.std.proofs.lemmas.List.{get_or_read}
use Rattle.graphs.specs.Graph.{lists, next}
use Rattle.graph_search.specs.Searches.{IsSeen}
use Rattle.graphs.specs.Placed.{Came}
use Rattle.graphs.proofs.HeldLaws.{length_held}
use Rattle.graphs.proofs.OrderLaws.{came_next}
use Rattle.graphs.proofs.ranks.place.Goals as goal

pub returns : goal.returns
returns c =
    let graph = lists c.args.graph.now in
    let placed = c.args.placed.now.items in
    let node = c.args.node in
    let within : node < length graph = omega (arith, length_held c.args.graph.now, c.requires.node) in
    let inside : node < length placed = omega (arith, within, c.requires.so_far.room) in
    let none : get_or placed node false ≡ false = sym (get_or_read placed node c.index.result.now inside c.index.ensures false) ∙ c.if-index.false in
    let ready : All (IsSeen placed) (next graph node) = rw (c.as_slice.ensures.value, c.edges.ensures) at c.if-not-all_placed.ensures in
    subst (λ longer. Came graph (λ x. x ≡ node) placed (set placed node true) c.args.order.now.items longer true) (sym c.in_ok-push.ensures.items)
    (came_next graph placed c.args.order.now.items c.requires.so_far node within none ready)
