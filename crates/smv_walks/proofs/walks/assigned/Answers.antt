use Rattle.smv_cells.proofs.SeenLaws.{keeps_trans, cells_kept}
use Rattle.smv_outcomes.proofs.KnownLaws.{known_kept}
use Rattle.smv_targets.proofs.GivenLaws.{target_kept}
use Rattle.smv_walks.proofs.PartLaws.{assigned_of_it}
use Rattle.smv_walks.proofs.walks.assigned.Goals as goal

pub returns-clause-is : goal.returns-clause-is
returns-clause-is g c = assigned_of_it _ _ _ _ _ _ _ _ _ _ _ _ c.in_ok-r.ensures.keeps c.in_ok-x.ensures.keeps c.requires.cells_made c.requires.target_made _ _ _ _ _ _ _ c.as_slice.ensures c.everything-open.ensures.is c.in_ok-r.ensures.made c.in_ok-r.ensures.is c.in_ok-x.ensures.is c.in_ok-g.ensures.gist

pub returns-clause-cells : goal.returns-clause-cells
returns-clause-cells g c = cells_kept _ _ _ _ _ _ c.in_ok-g.ensures.keeps c.in_ok-x.ensures.cells

pub returns-clause-target : goal.returns-clause-target
returns-clause-target g c = target_kept _ _ _ _ _ _ (keeps_trans _ _ _ _ _ _ c.in_ok-x.ensures.keeps c.in_ok-g.ensures.keeps) c.in_ok-r.ensures.target

pub everything-open-requires : goal.everything-open-requires
everything-open-requires g c = record { target_made = target_kept _ _ _ _ _ _ c.in_ok-x.ensures.keeps c.in_ok-r.ensures.target }

pub returns-clause-known : goal.returns-clause-known
returns-clause-known g c = known_kept _ _ _ _ _ _ _ _ c.in_ok-g.ensures.keeps c.in_ok-x.ensures.cells c.in_ok-x.ensures.known
