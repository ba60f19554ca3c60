use Rattle.std.proofs.Common.{◌≡◌, ◌<◌, List, map, length, false, sym, ap, subst, ◌∙◌, arith}
use Rattle.std.specs.List.{flat_map}
use Rattle.std.specs.List.Sorted.{IsPermutation}
use Rattle.std.specs.Option.{MatchOption}
use Rattle.smv_core.specs.declared.flat.Family.{Family}
use Rattle.law_designs.specs.Reading.{Reading}
use Rattle.law_designs.specs.Loops.{edges_of, hold_a_cycle, in_order, undelayed_in}
use Rattle.smv_loops.specs.Edges.{edges_at, IsFirst}
use Rattle.smv_loops.specs.Held.{reading_of}
use Rattle.smv_loops.specs.Order.{AreAfterTheirReads, cells_from}
use Rattle.smv_loops.proofs.NumberLaws.{length-map}
use Rattle.smv_loops.proofs.ClosingLaws.{fault-none, fault-some, same-undelayed, get-mapped}
use Rattle.smv_loops.proofs.loops.loops.Goals as goal

pub returns-in-None-clause-order : goal.returns-in-None-clause-order
returns-in-None-clause-order c =
    let d = c.args.design.now in
    let cells = c.in_ok-ordered-in-None.field-0 in
    let held = c.in_ok-held.held.items in
    let families = c.as_slice-families.result.now in
    let e : map reading_of held ≡ undelayed_in d = c.in_ok-held.ensures ∙ ap in_order c.in_ok-undelayed.ensures ∙ same-undelayed d in
    let same : IsPermutation (cells_from 0 families) cells = c.in_ok-ordered-in-None.ensures.same in
    let after : AreAfterTheirReads (flat_map (edges_at families) (map reading_of held)) cells = rw c.as_slice-in-None.ensures.value at c.in_ok-ordered-in-None.ensures.after in
    let among : AreAfterTheirReads (flat_map (edges_of d) (map reading_of held)) cells = subst (λ (fs : List Family). AreAfterTheirReads (flat_map (edges_at fs) (map reading_of held)) cells) c.as_slice-families.ensures after in
    record {
      each_once = subst (λ (fs : List Family). IsPermutation (cells_from 0 fs) cells) c.as_slice-families.ensures same;
      after_reads = subst (λ (readings : List Reading). AreAfterTheirReads (flat_map (edges_of d) readings) cells) e among;
    }

pub returns-in-None-clause-faultless : goal.returns-in-None-clause-faultless
returns-in-None-clause-faultless c =
    let d = c.args.design.now in
    let readings = map reading_of c.in_ok-held.held.items in
    let e : readings ≡ undelayed_in d = c.in_ok-held.ensures ∙ ap in_order c.in_ok-undelayed.ensures ∙ same-undelayed d in
    let f : MatchOption c.in_ok-first.first (hold_a_cycle (flat_map (edges_at d.families) readings) ≡ false) (λ k. IsFirst d.families readings k) = rw (c.as_slice-families.ensures, c.as_slice.ensures.value) at c.in_ok-first.ensures in
    sym (fault-none d readings e (rw c.in-None.is at f))

pub returns-clause-fault : goal.returns-clause-fault
returns-clause-fault c =
    let d = c.args.design.now in
    let held = c.in_ok-held.held.items in
    let readings = map reading_of held in
    let e : readings ≡ undelayed_in d = c.in_ok-held.ensures ∙ ap in_order c.in_ok-undelayed.ensures ∙ same-undelayed d in
    let f : MatchOption c.in_ok-first.first (hold_a_cycle (flat_map (edges_at d.families) readings) ≡ false) (λ k. IsFirst d.families readings k) = rw (c.as_slice-families.ensures, c.as_slice.ensures.value) at c.in_ok-first.ensures in
    let g : IsFirst d.families readings c.in-Some.first = rw c.in-Some.is at f in
    let m = length-map reading_of held in
    let l : c.in-Some.first < length held = omega (arith, g.0, m) in
    sym (fault-some d readings c.in-Some.first (reading_of c.index.result.now) e g (get-mapped reading_of held c.in-Some.first c.index.result.now l c.index.ensures))
