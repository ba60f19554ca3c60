use Rattle.std.proofs.Common.{sym, subst}
use Rattle.smv_conditions.specs.Offers.{AreOffersMade}
use Rattle.smv_conditions.proofs.AddLaws.{offers_kept}
use Rattle.smv_cells.proofs.SeenLaws.{seen_on}
use Rattle.smv_sides.proofs.ChoiceLaws.{choices_are}
use Rattle.smv_sides.proofs.choices.choices_of.Goals as goal

pub add_chosen-requires-clause-possible_made : goal.add_chosen-requires-clause-possible_made
add_chosen-requires-clause-possible_made g c = subst (AreOffersMade _) (sym c.new-possible.ensures.items) tt

pub add_chosen-requires-clause-certain_made : goal.add_chosen-requires-clause-certain_made
add_chosen-requires-clause-certain_made g c = subst (AreOffersMade _) (sym c.new-named.ensures.items) tt

pub add_chosen-requires-2-clause-certain_made : goal.add_chosen-requires-2-clause-certain_made
add_chosen-requires-2-clause-certain_made g c = subst (AreOffersMade _) (sym c.new-rests.ensures.items) tt

pub returns-clause-made : goal.returns-clause-made
returns-clause-made g c = record {
  possible = subst (AreOffersMade _) (sym c.from_vec.ensures) c.in_ok-add_chosen-2.ensures.possible_made;
  named = subst (AreOffersMade _) (sym c.from_vec-2.ensures) (offers_kept _ _ _ _ _ _ c.in_ok-add_chosen-2.ensures.keeps c.in_ok-add_chosen.ensures.certain_made);
  rests = subst (AreOffersMade _) (sym c.from_vec-3.ensures) c.in_ok-add_chosen-2.ensures.certain_made;
}

pub returns-clause-are : goal.returns-clause-are
returns-clause-are g c v h = choices_are _ _ _ _ _ _ v _ _ _ _ _ _ _ _ _ _ _ _ _ _ _ _ (c.in_ok-first.ensures v.world h.world) (c.in_ok-last.ensures v.world h.world) c.as_slice-places.ensures.value c.as_slice-places-2.ensures.value c.new-possible.ensures.items c.new-named.ensures.items c.new-rests.ensures.items
    c.from_vec.ensures c.from_vec-2.ensures c.from_vec-3.ensures c.in_ok-add_chosen-2.ensures.keeps c.in_ok-add_chosen.ensures.certain_made (c.in_ok-add_chosen.ensures.possible v h) (c.in_ok-add_chosen.ensures.certain v h)
    (c.in_ok-add_chosen-2.ensures.possible v (seen_on _ _ _ _ _ _ _ v c.in_ok-add_chosen.ensures.keeps c.requires.cells_made h)) (c.in_ok-add_chosen-2.ensures.certain v (seen_on _ _ _ _ _ _ _ v c.in_ok-add_chosen.ensures.keeps c.requires.cells_made h))
