use Rattle.std.proofs.Common.{ℕ, ◌+◌, map, drop, refl}
use Rattle.std.specs.Prelude.{option_and_then}
use Rattle.std.specs.List.{slice_get}
use Rattle.smv_core.specs.declared.tree.Ref.{Ref}
use Rattle.smv_core.specs.declared.flat.Leaf.{Leaf}
use Rattle.law_obligations.specs.Outlines.{unit_in, map_in}
use Rattle.law_uses.specs.Choices.{own_map}
use Rattle.smv_choices.specs.Held.{is_seen}
use Rattle.smv_choices.specs.Parts.{chosen_again}
use Rattle.smv_choices.specs.Readings.{pair_of}
use Rattle.smv_choices.proofs.FaultLaws.{stopped}
use Rattle.smv_choices.proofs.SeenLaws.{as_looked, known_more}
use Rattle.smv_choices.proofs.StepLaws.{among-step}
use Rattle.smv_choices.proofs.twice.chosen_for_each.Goals as goal

pub returns-then-are_one : goal.returns-then-are_one
returns-then-are_one c =
    let d = c.args.tables.now.design.now in
    let units = c.args.units.now in
    let picks = c.args.picks.now in
    let unit = c.x-item.result.leaf.now.unit in
    let place_of = λ (u : ℕ). chosen_again (option_and_then (λ unit. map_in (unit_in d unit)) (slice_get units u)) picks in
    let looked = as_looked place_of c.loop-x.found c.in_ok-place.place c.first_of-found.result unit (is_seen c.loop-x.seen) c.in_ok-place.ensures.place c.first_of-found.ensures c.loop-x.invariant.known in
    stopped d units picks (map pair_of (drop (c.loop-x.x-index + 1) c.args.proved.now)) c.first_of-found.result c.in_ok-bound.bound _ c.in_ok-bound.ensures (c.are_one.ensures c.if-are_one.true)
    (among-step (λ (x : Ref × Leaf). chosen_again (own_map d units x.1) picks) pair_of c.args.proved.now c.loop-x.x-index c.x-item.result c.loop-x.found (place_of unit) c.first_of-found.result _
    c.loop-x-test.true c.x-item.is refl looked c.loop-x.invariant.found)

pub loop-x-preserved : goal.loop-x-preserved
loop-x-preserved c =
    let d = c.args.tables.now.design.now in
    let units = c.args.units.now in
    let picks = c.args.picks.now in
    let unit = c.x-item.result.leaf.now.unit in
    let place_of = λ (u : ℕ). chosen_again (option_and_then (λ unit. map_in (unit_in d unit)) (slice_get units u)) picks in
    let looked = as_looked place_of c.loop-x.found c.in_ok-place.place c.first_of-found.result unit (is_seen c.loop-x.seen) c.in_ok-place.ensures.place c.first_of-found.ensures c.loop-x.invariant.known in
    record {
      known = known_more place_of c.loop-x.found c.in_ok-place.place c.first_of-found.result unit (is_seen c.loop-x.seen) c.in_ok-place.ensures.place c.first_of-found.ensures c.loop-x.invariant.known (is_seen c.chosen_anew.new.seen) c.in_ok-place.ensures.seen;
      found = among-step (λ (x : Ref × Leaf). chosen_again (own_map d units x.1) picks) pair_of c.args.proved.now c.loop-x.x-index c.x-item.result c.loop-x.found (place_of unit) c.first_of-found.result _
          c.loop-x-test.true c.x-item.is refl looked c.loop-x.invariant.found;
    }
