use Rattle.std.proofs.Common.{◌≡◌, ◌<◌, length, true, false, get_or, sym, subst, ap, arith}
use Rattle.std.proofs.lemmas.List.{length-replicate}
use Rattle.graph_search.specs.Walks.{lists}
use Rattle.graph_search.specs.Reverse.{AreNumbers}
use Rattle.graph_search.proofs.ReverseLaws.{lists_long}
use Rattle.graph_components.proofs.InnerLaws.{all_found, from_nodes}
use Rattle.graph_components.proofs.checked.all_found.Goals as goal

pub see_all-requires : goal.see_all-requires
see_all-requires c = λ x h.
    let within = c.requires.roots x h in
    let long = ap length c.in_ok-marks.ensures in
    omega (arith, within, long, length-replicate (length c.args.graph.now) false, c.in_ok-marks.marks.ok.0)

pub explore-requires-clause-nodes : goal.explore-requires-clause-nodes
explore-requires-clause-nodes c = λ x y h.
    let graph = c.args.graph.now in
    let are = subst (AreNumbers (length (lists graph))) (sym c.as_slice.ensures.value) (subst (λ n. AreNumbers n c.in_ok-numbers.numbers.items) (sym (lists_long graph)) c.in_ok-numbers.ensures) in
    let from = from_nodes (lists graph) c.as_slice.result.now c.args.roots.now are (length graph) c.in_ok-marks.marks.items c.see_all.new.seen.items c.new-queue.result.items c.see_all.new.queue.items
    (sym (lists_long graph)) c.requires.graph c.in_ok-marks.ensures c.new-queue.ensures.items c.in_ok-see_all.ensures in
    let within = from.0 x y h in
    omega (arith, within, c.see_all.new.seen.ok.0)

pub returns : goal.returns
returns c = λ yes.
    let graph = c.args.graph.now in
    let are = subst (AreNumbers (length (lists graph))) (sym c.as_slice.ensures.value) (subst (λ n. AreNumbers n c.in_ok-numbers.numbers.items) (sym (lists_long graph)) c.in_ok-numbers.ensures) in
    all_found (lists graph) c.as_slice.result.now c.args.roots.now are (length graph) c.in_ok-marks.marks.items c.see_all.new.seen.items c.explore.new.seen.items c.new-queue.result.items c.see_all.new.queue.items c.explore.new.queue.items
    (sym (lists_long graph)) c.in_ok-marks.ensures c.new-queue.ensures.items c.in_ok-see_all.ensures c.in_ok-explore.ensures
    (subst (λ marks. (k : _) → k < length marks → get_or marks k false ≡ true) c.as_slice-2.ensures.value (c.all_marked.ensures yes))
