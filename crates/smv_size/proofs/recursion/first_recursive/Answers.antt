use Rattle.std.proofs.Common.{◌≡◌, None, length, map, sym, ap, subst, ◌∙◌, List, ℕ, Option}
use Rattle.std.specs.Prelude.{IfOk}
use Rattle.std.specs.List.{flat_map}
use Rattle.smv_core.specs.Values.{Name}
use Rattle.graphs.specs.Graph.{lists, IsGraph}
use Rattle.graphs.proofs.HeldLaws.{length_held}
use Rattle.smv_mentions.specs.Said.{told}
use Rattle.smv_size.specs.Recursion.{names_told, module_graph, least_from, recursive_told}
use Rattle.smv_size.proofs.RecursionLaws.{graph_holds, graph_long}
use Rattle.smv_size.proofs.recursion.first_recursive.Goals as goal

pub first_in_all-requires-clause-edges : goal.first_in_all-requires-clause-edges
first_in_all-requires-clause-edges c =
    let tops = map told c.args.pieces.now in
    let same : lists c.as_slice-2.result.now ≡ module_graph (names_told tops) tops = ap lists c.as_slice-2.ensures.value ∙ c.in_ok-graph.ensures ∙ ap (λ (ns : List Name). module_graph ns tops) c.in_ok-names.ensures in
    subst (λ g. IsGraph g) (sym same) (graph_holds tops)

pub first_in_all-requires-clause-nodes : goal.first_in_all-requires-clause-nodes
first_in_all-requires-clause-nodes c =
    let tops = map told c.args.pieces.now in
    let same : lists c.as_slice-2.result.now ≡ module_graph (names_told tops) tops = ap lists c.as_slice-2.ensures.value ∙ c.in_ok-graph.ensures ∙ ap (λ (ns : List Name). module_graph ns tops) c.in_ok-names.ensures in
    ap (λ (ns : List Name). length ns) c.in_ok-names.ensures ∙ graph_long tops ∙ ap (λ (g : List (List ℕ)). length g) (sym same) ∙ length_held c.as_slice-2.result.now

pub returns : goal.returns
returns c =
    let tops = map told c.args.pieces.now in
    let same : lists c.as_slice-2.result.now ≡ module_graph (names_told tops) tops = ap lists c.as_slice-2.ensures.value ∙ c.in_ok-graph.ensures ∙ ap (λ (ns : List Name). module_graph ns tops) c.in_ok-names.ensures in
    let places : least_from None (flat_map (recursive_told c.in_ok-names.names (lists c.as_slice-2.result.now)) tops) ≡ least_from None (flat_map (recursive_told (names_told tops) (module_graph (names_told tops) tops)) tops)
    = ap (λ (ns : List Name). least_from None (flat_map (recursive_told ns (lists c.as_slice-2.result.now)) tops)) c.in_ok-names.ensures ∙ ap (λ g. least_from None (flat_map (recursive_told (names_told tops) g) tops)) same in
    subst (λ (z : Option ℕ). IfOk c.first_in_all.result (λ at. at ≡ z)) places c.first_in_all.ensures
