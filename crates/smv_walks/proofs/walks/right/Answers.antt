use Rattle.smv_cells.proofs.SeenLaws.{cells_kept}
use Rattle.smv_outcomes.proofs.KnownLaws.{known_kept}
use Rattle.smv_targets.proofs.GivenLaws.{target_kept}
use Rattle.smv_walks.proofs.SideLaws.{may_right, must_right}
use Rattle.smv_walks.proofs.walks.right.Goals as goal

pub returns-in_ok-r-in-May-clause-is : goal.returns-in_ok-r-in-May-clause-is
returns-in_ok-r-in-May-clause-is g c = may_right _ _ _ _ _ _ _ _ _ _ c.in-May.is c.in_ok-r-in-May.ensures.is

pub returns-in_ok-r-in-Must-clause-is : goal.returns-in_ok-r-in-Must-clause-is
returns-in_ok-r-in-Must-clause-is g c = must_right _ _ _ _ _ _ _ _ _ _ _ _ c.in-Must.is c.in_ok-c-in-Must.ensures.is c.in_ok-r-in-Must.ensures.holds

pub returns-in_ok-r-in-Must-clause-cells : goal.returns-in_ok-r-in-Must-clause-cells
returns-in_ok-r-in-Must-clause-cells g c = cells_kept _ _ _ _ _ _ c.in_ok-r-in-Must.ensures.keeps c.in_ok-c-in-Must.ensures.cells

pub returns-in_ok-r-in-Must-clause-target : goal.returns-in_ok-r-in-Must-clause-target
returns-in_ok-r-in-Must-clause-target g c = target_kept _ _ _ _ _ _ c.in_ok-r-in-Must.ensures.keeps c.in_ok-c-in-Must.ensures.target

pub returns-in_ok-r-in-Must-clause-known : goal.returns-in_ok-r-in-Must-clause-known
returns-in_ok-r-in-Must-clause-known g c = known_kept _ _ _ _ _ _ _ _ c.in_ok-r-in-Must.ensures.keeps c.in_ok-c-in-Must.ensures.cells c.in_ok-c-in-Must.ensures.known
