use Rattle.std.proofs.Common.{rules}
use Rattle.smv_cells.proofs.CellLaws.{no_place, one_place}
use Rattle.smv_cells.proofs.cells.+add_places.Goals as goal

pub returns-in_default-clause-adds : goal.returns-in_default-clause-adds
returns-in_default-clause-adds g t c n p a = no_place n _ a p _ _ _ _ c.in_default.ensures.cases

pub returns-clause-adds : goal.returns-clause-adds
returns-clause-adds g t c n p a = let w = c.in-Some.ensures.cases in one_place n _ a p _ _ _ _ _ _ _ _ _ _ _ w.0 (c.in_ok-add_offer.ensures.keeps.same _ c.requires.when_made a) (c.constant-always.ensures.holds a) (c.in_ok-add_offer.ensures.adds n p a) (c.in_ok-add_places.ensures.adds n p a)

pub add_places-requires : goal.add_places-requires
add_places-requires g t c = let when_made = c.in_ok-add_offer.ensures.keeps.made c.args.when c.requires.when_made in search (rules, when_made, c.in_ok-add_offer.ensures.made)
