use Rattle.smv_cells.proofs.SeenLaws.{keeps_trans, cells_kept}
use Rattle.smv_outcomes.proofs.KnownLaws.{known_kept}
use Rattle.smv_walks.proofs.DemandLaws.{element_broken, claim_broken, old_kept, old_known_kept}
use Rattle.smv_walks.proofs.demands.broken.Goals as goal

pub returns-in_ok-r-in-Defined-clause-is : goal.returns-in_ok-r-in-Defined-clause-is
returns-in_ok-r-in-Defined-clause-is g c = element_broken _ _ _ _ _ _ _ _ _ _ _ _ c.in-Defined.is c.in_ok-r-in-Defined.ensures.is

pub returns-in_ok-r-in-Defined-clause-cells : goal.returns-in_ok-r-in-Defined-clause-cells
returns-in_ok-r-in-Defined-clause-cells g c = cells_kept _ _ _ _ _ _ c.in_ok-r-in-Defined.ensures.keeps c.requires.cells_made

pub returns-in_ok-r-in-Defined-clause-old : goal.returns-in_ok-r-in-Defined-clause-old
returns-in_ok-r-in-Defined-clause-old g c = old_kept _ _ _ _ _ _ c.in_ok-r-in-Defined.ensures.keeps c.requires.old_made

pub returns-in_ok-r-in-Holds-clause-is : goal.returns-in_ok-r-in-Holds-clause-is
returns-in_ok-r-in-Holds-clause-is g c = claim_broken _ _ _ _ _ _ _ _ _ _ _ _ _ c.in-Holds.is c.as_slice.ensures c.in_ok-x-in-Holds.ensures.is c.in_ok-r-in-Holds.ensures.holds

pub returns-in_ok-r-in-Holds-clause-cells : goal.returns-in_ok-r-in-Holds-clause-cells
returns-in_ok-r-in-Holds-clause-cells g c = cells_kept _ _ _ _ _ _ c.in_ok-r-in-Holds.ensures.keeps c.in_ok-x-in-Holds.ensures.cells

pub returns-in_ok-r-in-Holds-clause-old : goal.returns-in_ok-r-in-Holds-clause-old
returns-in_ok-r-in-Holds-clause-old g c = old_kept _ _ _ _ _ _ (keeps_trans _ _ _ _ _ _ c.in_ok-x-in-Holds.ensures.keeps c.in_ok-r-in-Holds.ensures.keeps) c.requires.old_made

pub returns-in_ok-r-in-Holds-clause-known : goal.returns-in_ok-r-in-Holds-clause-known
returns-in_ok-r-in-Holds-clause-known g c = known_kept _ _ _ _ _ _ _ _ c.in_ok-r-in-Holds.ensures.keeps c.in_ok-x-in-Holds.ensures.cells c.in_ok-x-in-Holds.ensures.known

pub returns-in_ok-r-in-Holds-clause-past : goal.returns-in_ok-r-in-Holds-clause-past
returns-in_ok-r-in-Holds-clause-past g c = old_known_kept _ _ _ _ _ _ _ _ (keeps_trans _ _ _ _ _ _ c.in_ok-x-in-Holds.ensures.keeps c.in_ok-r-in-Holds.ensures.keeps) c.requires.old_made c.requires.past
