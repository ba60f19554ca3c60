use Rattle.std.proofs.Common.{refl}
use Rattle.smv_cells.proofs.SeenLaws.{cells_kept}
use Rattle.smv_walks.proofs.DemandLaws.{element_met, claim_met, old_kept, old_known_kept}
use Rattle.smv_walks.proofs.demands.met.Goals as goal

pub returns-in_ok-r-in-Defined-clause-is : goal.returns-in_ok-r-in-Defined-clause-is
returns-in_ok-r-in-Defined-clause-is g c = element_met _ _ _ _ _ _ _ _ _ _ _ _ c.in-Defined.is c.in_ok-r-in-Defined.ensures.is

pub returns-in_ok-r-in-Defined-clause-cells : goal.returns-in_ok-r-in-Defined-clause-cells
returns-in_ok-r-in-Defined-clause-cells g c = cells_kept _ _ _ _ _ _ c.in_ok-r-in-Defined.ensures.keeps c.requires.cells_made

pub returns-in_ok-r-in-Defined-clause-old : goal.returns-in_ok-r-in-Defined-clause-old
returns-in_ok-r-in-Defined-clause-old g c = old_kept _ _ _ _ _ _ c.in_ok-r-in-Defined.ensures.keeps c.requires.old_made

pub returns-in_ok-x-in-Holds-clause-is : goal.returns-in_ok-x-in-Holds-clause-is
returns-in_ok-x-in-Holds-clause-is g c = claim_met _ _ _ _ _ _ _ _ _ _ _ _ c.in-Holds.is c.as_slice.ensures refl c.in_ok-x-in-Holds.ensures.is

pub returns-in_ok-x-in-Holds-clause-old : goal.returns-in_ok-x-in-Holds-clause-old
returns-in_ok-x-in-Holds-clause-old g c = old_kept _ _ _ _ _ _ c.in_ok-x-in-Holds.ensures.keeps c.requires.old_made

pub returns-in_ok-x-in-Holds-clause-past : goal.returns-in_ok-x-in-Holds-clause-past
returns-in_ok-x-in-Holds-clause-past g c = old_known_kept _ _ _ _ _ _ _ _ c.in_ok-x-in-Holds.ensures.keeps c.requires.old_made c.requires.past
