use Rattle.std.proofs.Common.{rules}
use Rattle.smv_conditions.proofs.AddLaws.{offers_kept, rest_kept}
use Rattle.smv_cells.proofs.SeenLaws.{cells_kept, keeps_trans}
use Rattle.smv_outcome_lists.proofs.ListLaws.{lists_kept}
use Rattle.smv_outcome_lists.proofs.ReadLaws.{adds_same, none_along, read_ends, read_stops, read_goes, read_whole, outside_added, inside_added, more_along}
use Rattle.smv_outcome_lists.proofs.reads.+reads.Goals as goal

pub add_read-returns-in_default-clause-adds : goal.add_read-returns-in_default-clause-adds
add_read-returns-in_default-clause-adds g t c w h p a = adds_same w.classes _ _ _ a p _ _ _ _ _ (read_ends w _ a p _ _ _ _ _ _ _ c.in_default.ensures.cases) (c.in_ok-add_cell.ensures.adds w h p a)

pub add_read-returns-clause-adds : goal.add_read-returns-clause-adds
add_read-returns-clause-adds g t c w h p a = let k = c.in-Some.ensures.cases in adds_same w.classes _ _ _ a p _ _ _ _ _ (read_whole w _ a p _ _ _ _ _ _ _ _ _ k.0) (c.in_ok-add_next.ensures.adds w h p a)

pub add_next-returns-in_default-clause-adds : goal.add_next-returns-in_default-clause-adds
add_next-returns-in_default-clause-adds g t c w h p a = adds_same w.classes _ _ _ a p _ _ _ _ _ (read_stops w _ a p _ _ _ _ _ _ _ c.in_default.ensures.cases) (c.in_ok-add_cell.ensures.adds w h p a)

pub add_next-returns-clause-adds : goal.add_next-returns-clause-adds
add_next-returns-clause-adds g t c w h p a = let k = c.in-Some.ensures.cases in adds_same w.classes _ _ _ a p _ _ _ _ _ (read_goes w _ a p _ _ _ _ _ _ _ _ _ _ _ k.0 c.as_slice.ensures) (c.in_ok-add_along.ensures.adds w h p a)

pub add_along-returns-in_default-clause-adds : goal.add_along-returns-in_default-clause-adds
add_along-returns-in_default-clause-adds g t c w h p a = none_along w _ a p _ _ _ _ _ _ _ _ _ _ _ c.in_default.ensures.cases

pub add_along-returns-clause-adds : goal.add_along-returns-clause-adds
add_along-returns-clause-adds g t c w h p a = let k = c.in-Some.ensures.cases in
    more_along w _ _ _ a p _ _ _ _ _ _ _ _ _ _ _ _ _ _ _ _ _ _ _ _ k.0 c.in_ok-here.ensures.keeps c.in_ok-add_inside.ensures.keeps c.requires.when_made c.requires.out_made c.requires.cells_made c.requires.us_made c.requires.uss_made (c.in_ok-here.ensures.holds a) (c.inside-at.ensures w h) (c.in_ok-add_inside.ensures.adds w h p a) (c.in_ok-add_along.ensures.adds w h p a)

pub add_along-returns-clause-keeps : goal.add_along-returns-clause-keeps
add_along-returns-clause-keeps g t c = keeps_trans _ _ _ _ _ _ (keeps_trans _ _ _ _ _ _ c.in_ok-here.ensures.keeps c.in_ok-add_inside.ensures.keeps) c.in_ok-add_along.ensures.keeps

pub add_along-add_inside-requires : goal.add_along-add_inside-requires
add_along-add_inside-requires g t c κs within =
    let out_made = offers_kept _ _ _ _ _ _ c.in_ok-here.ensures.keeps c.requires.out_made in
    let cells_made = cells_kept _ _ _ _ _ _ c.in_ok-here.ensures.keeps c.requires.cells_made in
    let uss_made = lists_kept _ _ _ _ _ _ c.in_ok-here.ensures.keeps c.requires.uss_made in
    search (rules, out_made, cells_made, uss_made, c.in_ok-here.ensures.made)

pub add_along-add_along-requires : goal.add_along-add_along-requires
add_along-add_along-requires g t c κs within =
    let k = c.in-Some.ensures.cases in
    let keeps = keeps_trans _ _ _ _ _ _ c.in_ok-here.ensures.keeps c.in_ok-add_inside.ensures.keeps in
    let when_made = keeps.made c.args.when c.requires.when_made in
    let cells_made = cells_kept _ _ _ _ _ _ keeps c.requires.cells_made in
    let us_made = rest_kept _ _ _ _ _ _ _ _ k.0 keeps c.requires.us_made in
    let uss_made = lists_kept _ _ _ _ _ _ keeps c.requires.uss_made in
    search (rules, when_made, cells_made, us_made, uss_made, c.in_ok-add_inside.ensures.made)

pub add_inside-returns-in_ok-add_offer-in-None-clause-adds : goal.add_inside-returns-in_ok-add_offer-in-None-clause-adds
add_inside-returns-in_ok-add_offer-in-None-clause-adds g t c w h p a = outside_added w _ a p _ _ _ _ _ _ _ _ _ _ _ _ _ c.in-None.is (c.constant-always.ensures.holds a) (c.in_ok-add_offer-in-None.ensures.adds w.classes p a)

pub add_inside-returns-in_ok-add_read-in-Some-clause-adds : goal.add_inside-returns-in_ok-add_read-in-Some-clause-adds
add_inside-returns-in_ok-add_read-in-Some-clause-adds g t c w h p a = inside_added w _ a p _ _ _ _ _ _ _ _ _ _ _ _ _ _ _ c.in-Some.is c.in_ok-longer-in-Some.ensures c.as_slice.ensures.value (c.in_ok-add_read-in-Some.ensures.adds w h p a)
