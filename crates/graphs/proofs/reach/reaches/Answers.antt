use Rattle.std.proofs.Common.{◌<◌, length, get_or, false, sym, subst, ap, ◌∙◌, arith}
use Rattle.graph_search.specs.Reverse.{AreNumbers}
use Rattle.graph_search.proofs.ReverseLaws.{by_itself, edges_within}
use Rattle.graphs.specs.Graph.{lists, next, reaches}
use Rattle.graphs.proofs.HeldLaws.{length_held}
use Rattle.graphs.proofs.WalkLaws.{followed, edge_within, marked_reaches}
use Rattle.graphs.proofs.reach.reaches.Goals as goal

pub reached-requires-clause-nodes : goal.reached-requires-clause-nodes
reached-requires-clause-nodes c = λ x y h.
    let graph = lists c.args.graph.now in
    let numbers = c.as_slice.result.now in
    let are : AreNumbers (length graph) numbers = subst (AreNumbers (length graph)) (sym c.as_slice.ensures.value) (subst (λ n. AreNumbers n c.in_ok-numbers.numbers.items) (sym (length_held c.args.graph.now)) c.in_ok-numbers.ensures) in
    let within = edges_within graph numbers are (edge_within graph c.requires.edges) x y h in
    omega (arith, within, length_held c.args.graph.now)

pub returns : goal.returns
returns c =
    let graph = lists c.args.graph.now in
    let numbers = c.as_slice.result.now in
    let are : AreNumbers (length graph) numbers = subst (AreNumbers (length graph)) (sym c.as_slice.ensures.value) (subst (λ n. AreNumbers n c.in_ok-numbers.numbers.items) (sym (length_held c.args.graph.now)) c.in_ok-numbers.ensures) in
    let by = by_itself graph numbers are in
    let begun : c.args.start < length graph = omega (arith, c.requires.start, length_held c.args.graph.now) in
    c.has_mark.ensures
    ∙ (ap (λ l. get_or l c.args.target false) c.as_slice-2.ensures.value
    ∙ (marked_reaches graph c.in_ok-marks.marks.items c.args.target c.args.start c.requires.edges begun (λ x. (
      λ m. followed _ (next graph) by ((c.in_ok-marks.ensures x).0 m),
      λ w. (c.in_ok-marks.ensures x).1 (followed (next graph) _ (λ k. sym (by k)) w),
    ))
    ∙ ap (λ n. reaches graph n c.args.target c.args.start) (length_held c.args.graph.now)))
