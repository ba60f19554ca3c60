use Rattle.std.proofs.Common.{◌≡◌, List, ◌∷◌, map, sym, ap, subst, ◌∙◌, arith}
use Rattle.bdd_store.specs.declared.Ref.{Ref}
use Rattle.bdd_store.specs.Diagram.{IsLive, table}
use Rattle.bdd_store.proofs.Keeping.{keeps_then}
use Rattle.law_obligations.specs.Readings.{values_of}
use Rattle.smv_spots.specs.Spots.{place_in}
use Rattle.smv_cells.specs.declared.cells.Cell.{Cell}
use Rattle.smv_cells.specs.Cells.{AreCellsMade}
use Rattle.smv_cells.specs.Seen.{IsSeen}
use Rattle.smv_encode.proofs.Adds.{one_element}
use Rattle.smv_encode.proofs.Calls.{list_kept, list_seen}
use Rattle.smv_encode.proofs.CodedCells.{problem_world}
use Rattle.smv_wires.specs.Wired.{view_beside, meets_at}
use Rattle.smv_wires.proofs.Values.{offer_pushed, tests_more, tests_whole, at_item, values_are, value_there}
use Rattle.smv_wires.proofs.tested.tested_values.Goals as goal

pub value_met-requires : goal.value_met-requires
value_met-requires c = record { live = subst (AreCellsMade (IsLive c.loop-spot.store)) (sym c.loop-spot.invariant.same) (list_kept c.args.store.now c.loop-spot.store c.args.cells.now.items c.loop-spot.invariant.keeps c.requires.live) }

pub loop-spot-preserved : goal.loop-spot-preserved
loop-spot-preserved c = record {
  keeps = keeps_then c.args.store.now c.loop-spot.store c.value_met.new.store c.loop-spot.invariant.keeps c.in_ok-when.ensures.keeps;
  made = offer_pushed c.loop-spot.store c.value_met.new.store c.loop-spot.offers _ _ c.in_ok-when.ensures.keeps c.loop-spot.invariant.made c.in_ok-when.ensures.live c.in_ok-push.ensures.ok;
  same = c.in_ok-when.ensures.same ∙ c.loop-spot.invariant.same;
  tests = λ d is well order done x left next hx try seen a.
      let spots = c.as_slice-spot-items.result.now in
      let are = values_are d c.args.problem.now x c.args.element.now (one_element d x c.args.element.now hx) (problem_world c.args.problem.now d is well) c.in_ok-spots.spots.items c.in_ok-spots.ensures in
      let are' : map (place_in d.problem.world.classes) spots ≡ values_of d.problem.world x = ap (map (place_in d.problem.world.classes)) c.as_slice-spot-items.ensures.value ∙ are in
      let there = value_there d x spots are' c.loop-spot.spot-index _ c.loop-spot-test.true (at_item _ _ _ c.loop-spot-test.true) in
      let seen' : IsSeen table c.loop-spot.store c.args.problem.now c.loop-spot.cells.items (view_beside d order done (x ∷ left) next) =
      subst (λ (cs : List (Cell Ref)). IsSeen table c.loop-spot.store c.args.problem.now cs (view_beside d order done (x ∷ left) next)) (sym c.loop-spot.invariant.same)
      (list_seen c.args.store.now c.loop-spot.store c.args.problem.now c.args.cells.now.items (view_beside d order done (x ∷ left) next) c.loop-spot.invariant.keeps c.requires.live seen) in
      tests_more d.problem.world.classes c.loop-spot.store c.value_met.new.store a (meets_at d order done x left next a) spots c.loop-spot.spot-index _ c.loop-spot.offers _ c.in_ok-when.when c.loop-spot-test.true (at_item _ _ _ c.loop-spot-test.true) c.in_ok-when.ensures.keeps
      c.loop-spot.invariant.made c.in_ok-push.ensures.ok (c.in_ok-when.ensures.means d is well order done x left next hx try seen' there a) (c.loop-spot.invariant.tests d is well order done x left next hx try seen a);
}

pub returns-clause-tests : goal.returns-clause-tests
returns-clause-tests c = λ d is well order done x left next hx try seen a.
    let spots = c.as_slice-spot-items.result.now in
    let are = values_are d c.args.problem.now x c.args.element.now (one_element d x c.args.element.now hx) (problem_world c.args.problem.now d is well) c.in_ok-spots.spots.items c.in_ok-spots.ensures in
    tests_whole d.problem.world.classes c.loop-spot.store a (meets_at d order done x left next a) spots c.loop-spot.spot-index (values_of d.problem.world x) c.loop-spot.offers (omega arith) (ap (map (place_in d.problem.world.classes)) c.as_slice-spot-items.ensures.value ∙ are)
    (c.loop-spot.invariant.tests d is well order done x left next hx try seen a)
