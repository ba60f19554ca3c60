use Rattle.std.proofs.Common.{subst, sym, arith}
use Rattle.graph_search.specs.Walks.{lists, here}
use Rattle.graph_search.specs.Searches.{IsSeen}
use Rattle.graph_search.proofs.ReverseLaws.{edges_within, lists_long}
use Rattle.graph_components.proofs.ComponentLaws.{back_is_graph, first_is_mate, named}
use Rattle.graph_components.proofs.searched.first_mate.Goals as goal

pub reached-requires-clause-nodes : goal.reached-requires-clause-nodes
reached-requires-clause-nodes c = λ x y h.
    let within = edges_within (lists c.args.graph.now) c.args.numbers.now c.requires.numbers c.requires.graph x y h in
    omega (arith, within, lists_long c.args.graph.now)

pub leading-requires-clause-back : goal.leading-requires-clause-back
leading-requires-clause-back c = back_is_graph (lists c.args.graph.now) (lists c.args.back.now) c.requires.back

pub first_both-requires-clause-marks : goal.first_both-requires-clause-marks
first_both-requires-clause-marks c = subst (λ marks. IsSeen marks c.args.node) (sym c.as_slice.ensures.value) ((c.in_ok-there.ensures c.args.node).1 here)

pub first_both-requires-clause-others : goal.first_both-requires-clause-others
first_both-requires-clause-others c =
    subst (λ marks. IsSeen marks c.args.node) (sym c.as_slice-2.ensures.value) ((c.in_ok-and_back.ensures (lists c.args.graph.now) c.requires.back c.args.node).1 here)

pub returns : goal.returns
returns c =
    let graph = lists c.args.graph.now in
    first_is_mate graph c.as_slice.result.now c.as_slice-2.result.now c.args.node c.first_both.result
    (λ x.
    let both = c.in_ok-there.ensures x in
    let walks = named graph c.args.numbers.now c.requires.numbers c.args.node x in
    (λ m. walks.0 (both.0 (subst (λ marks. IsSeen marks x) c.as_slice.ensures.value m)), λ w. subst (λ marks. IsSeen marks x) (sym c.as_slice.ensures.value) (both.1 (walks.1 w))))
    (λ x.
    let both = c.in_ok-and_back.ensures graph c.requires.back x in
    (λ m. both.0 (subst (λ marks. IsSeen marks x) c.as_slice-2.ensures.value m), λ w. subst (λ marks. IsSeen marks x) (sym c.as_slice-2.ensures.value) (both.1 w)))
    c.first_both.ensures
