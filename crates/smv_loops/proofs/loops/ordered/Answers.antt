use Rattle.std.proofs.Common.{◌≡◌, ℕ, List, map, sym, ap, subst, ◌∙◌}
use Rattle.std.specs.List.{flat_map}
use Rattle.std.specs.List.Sorted.{IsPermutation}
use Rattle.std.proofs.lemmas.Result.{IfOk-weaker}
use Rattle.law_designs.specs.Loops.{Edge}
use Rattle.smv_loops.specs.declared.listed.Listed.{Listed}
use Rattle.smv_loops.specs.Held.{reading_of}
use Rattle.smv_loops.specs.Edges.{edges_at}
use Rattle.smv_loops.specs.Order.{AreAfterTheirReads, cells_from, listed}
use Rattle.smv_loops.specs.Ranks.{AreSettled}
use Rattle.smv_loops.proofs.GroupLaws.{links-below}
use Rattle.smv_loops.proofs.ClosingLaws.{edges-fall}
use Rattle.smv_loops.proofs.OrderLaws.{same-cells, after-reads}
use Rattle.smv_loops.proofs.loops.ordered.Goals as goal

pub ranks-requires : goal.ranks-requires
ranks-requires c =
    let families = c.args.families.now in
    let g = c.in_ok-graph.graph in
    rw c.as_slice.ensures.value (links-below families g.rows g.links.items (map reading_of c.args.held.now) c.in_ok-graph.ensures.links g.nodes c.in_ok-graph.ensures.nodes)

pub returns-clause-same : goal.returns-clause-same
returns-clause-same c =
    let families = c.args.families.now in
    let ranks = c.in_ok-ranks.ranks.items in
    let all = cells_from 0 families in
    let sorted = c.in_ok-sorted.field-0.items in
    let listing : c.in_ok-listed.listed.items ≡ map (listed families ranks) all = c.in_ok-listed.ensures ∙ ap (λ (r : List ℕ). map (listed families r) all) c.as_slice-3.ensures.value in
    let same : IsPermutation (map (listed families ranks) all) sorted = subst (λ (l : List Listed). IsPermutation l sorted) listing c.in_ok-sorted.ensures.same in
    IfOk-weaker c.cells_of.result (λ cells. cells ≡ map (λ (x : Listed). x.cell) sorted) (λ cells. IsPermutation all cells) (λ cells e. subst (IsPermutation all) (sym e) (same-cells families ranks all sorted same)) c.cells_of.ensures

pub returns-clause-after : goal.returns-clause-after
returns-clause-after c =
    let families = c.args.families.now in
    let g = c.in_ok-graph.graph in
    let ranks = c.in_ok-ranks.ranks.items in
    let all = cells_from 0 families in
    let sorted = c.in_ok-sorted.field-0.items in
    let links = g.links.items in
    let readings = map reading_of c.args.held.now in
    let edges : List Edge = flat_map (edges_at families) readings in
    let listing : c.in_ok-listed.listed.items ≡ map (listed families ranks) all = c.in_ok-listed.ensures ∙ ap (λ (r : List ℕ). map (listed families r) all) c.as_slice-3.ensures.value in
    let same : IsPermutation (map (listed families ranks) all) sorted = subst (λ (l : List Listed). IsPermutation l sorted) listing c.in_ok-sorted.ensures.same in
    let settled : AreSettled g.nodes links ranks = rw c.as_slice.ensures.value at c.in_ok-ranks.ensures in
    let falls = edges-fall families g.nodes g.rows links ranks readings c.in_ok-graph.ensures.nodes settled c.in_ok-graph.ensures.links c.requires in
    let after : AreAfterTheirReads edges (map (λ (x : Listed). x.cell) sorted) = after-reads families ranks all sorted edges same c.in_ok-sorted.ensures.up falls in
    IfOk-weaker c.cells_of.result (λ cells. cells ≡ map (λ (x : Listed). x.cell) sorted) (λ cells. AreAfterTheirReads edges cells) (λ cells e. subst (AreAfterTheirReads edges) (sym e) after) c.cells_of.ensures
