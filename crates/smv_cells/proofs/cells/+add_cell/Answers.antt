use Rattle.smv_cells.proofs.CellLaws.{no_cell, this_cell, other_cell}
use Rattle.smv_cells.proofs.cells.+add_cell.Goals as goal

pub returns-in_default-clause-adds : goal.returns-in_default-clause-adds
returns-in_default-clause-adds g t c w h p a = no_cell w.classes _ a p _ _ _ _ _ _ _ _ _ c.in_default.ensures.cases (c.in_ok-add_places.ensures.adds w.classes p a)

pub returns-then-is_of-clause-adds : goal.returns-then-is_of-clause-adds
returns-then-is_of-clause-adds g t c w h p a = let k = c.in-Some.ensures.cases in this_cell w.classes _ a p _ _ _ _ _ _ _ _ _ _ _ _ _ k.0 (c.is_of.ensures w h) c.if-is_of.true c.as_slice.ensures (c.in_ok-add_all.ensures.adds w.classes p a)

pub returns-clause-adds : goal.returns-clause-adds
returns-clause-adds g t c w h p a = let k = c.in-Some.ensures.cases in other_cell w.classes _ a p _ _ _ _ _ _ _ _ _ _ _ _ k.0 (c.is_of.ensures w h) c.if-is_of.false (c.in_ok-add_cell.ensures.adds w h p a)
