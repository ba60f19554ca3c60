use Rattle.std.proofs.Common.{◌≡◌, ◌<◌, map, length, false, sym, ap, ◌∙◌, arith}
use Rattle.std.specs.List.{flat_map}
use Rattle.std.specs.Option.{MatchOption}
use Rattle.law_designs.specs.Loops.{hold_a_cycle, in_order, undelayed_in}
use Rattle.smv_loops.specs.Edges.{edges_at, IsFirst}
use Rattle.smv_loops.specs.Held.{reading_of}
use Rattle.smv_loops.proofs.AnyOrderLaws.{ordered-none}
use Rattle.smv_loops.proofs.NumberLaws.{length-map}
use Rattle.smv_loops.proofs.ClosingLaws.{fault-none, fault-some, same-undelayed, get-mapped}
use Rattle.smv_loops.proofs.loops.loop_fault.Goals as goal

pub returns-then-not-looping : goal.returns-then-not-looping
returns-then-not-looping c =
    let d = c.args.design.now in
    let readings = map reading_of c.in_ok-undelayed.undelayed.items in
    let e : in_order readings ≡ undelayed_in d = ap in_order c.in_ok-undelayed.ensures ∙ same-undelayed d in
    let s : c.in_ok-looping.looping ≡ hold_a_cycle (flat_map (edges_at d.families) readings) = rw (c.as_slice-families.ensures, c.as_slice.ensures.value) at c.in_ok-looping.ensures in
    fault-none d (in_order readings) e (ordered-none d.families readings (sym s ∙ c.if-not-looping.true))

pub returns-in-None : goal.returns-in-None
returns-in-None c =
    let d = c.args.design.now in
    let readings = map reading_of c.in_ok-held.held.items in
    let e : readings ≡ undelayed_in d = c.in_ok-held.ensures ∙ ap in_order c.in_ok-undelayed.ensures ∙ same-undelayed d in
    let f : MatchOption c.in_ok-first.first (hold_a_cycle (flat_map (edges_at d.families) readings) ≡ false) (λ k. IsFirst d.families readings k) = rw (c.as_slice-families.ensures, c.as_slice-2.ensures.value) at c.in_ok-first.ensures in
    fault-none d readings e (rw c.in-None.is at f)

pub index-requires : goal.index-requires
index-requires c =
    let d = c.args.design.now in
    let readings = map reading_of c.in_ok-held.held.items in
    let f : MatchOption c.in_ok-first.first (hold_a_cycle (flat_map (edges_at d.families) readings) ≡ false) (λ k. IsFirst d.families readings k) = rw (c.as_slice-families.ensures, c.as_slice-2.ensures.value) at c.in_ok-first.ensures in
    let g : IsFirst d.families readings c.in-Some.first = rw c.in-Some.is at f in
    let l = length-map reading_of c.in_ok-held.held.items in
    omega (arith, g.0, l, c.in_ok-held.held.ok.0)

pub returns : goal.returns
returns c =
    let d = c.args.design.now in
    let held = c.in_ok-held.held.items in
    let readings = map reading_of held in
    let e : readings ≡ undelayed_in d = c.in_ok-held.ensures ∙ ap in_order c.in_ok-undelayed.ensures ∙ same-undelayed d in
    let f : MatchOption c.in_ok-first.first (hold_a_cycle (flat_map (edges_at d.families) readings) ≡ false) (λ k. IsFirst d.families readings k) = rw (c.as_slice-families.ensures, c.as_slice-2.ensures.value) at c.in_ok-first.ensures in
    let g : IsFirst d.families readings c.in-Some.first = rw c.in-Some.is at f in
    let m = length-map reading_of held in
    let l : c.in-Some.first < length held = omega (arith, g.0, m) in
    fault-some d readings c.in-Some.first (reading_of c.index.result.now) e g (get-mapped reading_of held c.in-Some.first c.index.result.now l c.index.ensures)
