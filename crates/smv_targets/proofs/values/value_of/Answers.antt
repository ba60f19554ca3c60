use Rattle.smv_cells.proofs.SeenLaws.{cells_kept}
use Rattle.smv_targets.proofs.TargetLaws.{added_alone}
use Rattle.smv_targets.proofs.values.value_of.Goals as goal

pub returns-clause-any : goal.returns-clause-any
returns-clause-any g c w h p a = added_alone w.classes _ _ _ a p _ _ _ _ c.new-offers.ensures.items (c.constant-always.ensures.holds a) (c.in_ok-add_cell.ensures.adds w h p a)

pub returns-clause-cells : goal.returns-clause-cells
returns-clause-cells g c = cells_kept _ _ _ _ _ _ c.in_ok-add_cell.ensures.keeps c.requires.cells_made
