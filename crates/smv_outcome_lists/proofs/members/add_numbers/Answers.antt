use Rattle.std.proofs.Common.{◌≡◌, ◌∙◌, ◌+◌, ◌-◌, ◌++◌, map, ap, arith}
use Rattle.smv_core.specs.Values.{numbers_from}
use Rattle.smv_spots.specs.declared.places.Sort.TheVariants as sort
use Rattle.smv_spots.specs.Spots.{spot_of}
use Rattle.smv_conditions.specs.Offers.{any_offer}
use Rattle.smv_outcome_lists.proofs.ListLaws.{numbers_are}
use Rattle.smv_outcome_lists.proofs.members.add_numbers.Goals as goal

pub returns-clause-adds : goal.returns-clause-adds
returns-clause-adds g c n p a =
    let made : c.in_ok-spots.spots.items ≡ map (spot_of sort.Number) (numbers_from c.args.low (c.args.high + 1 - c.args.low)) = grind (arith, c.in_ok-spots.ensures) in
    c.in_ok-add_each.ensures.adds n p a ∙ ap (λ l. map (any_offer n g.S.Conditions.holds c.args.s.now a p) c.args.lists.now.items ++ l) (numbers_are n g.S.Conditions.holds c.args.s.now a p _ _ (c.as_slice.ensures.value ∙ made))
