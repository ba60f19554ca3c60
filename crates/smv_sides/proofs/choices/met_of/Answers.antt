use Rattle.std.proofs.Common.{refl, ap, option_copied}
use Rattle.smv_cells.proofs.SeenLaws.{keeps_trans, cells_kept}
use Rattle.smv_outcomes.proofs.KnownLaws.{known_kept}
use Rattle.smv_sides.proofs.ChoiceLaws.{met_always, met_by}
use Rattle.smv_sides.proofs.choices.met_of.Goals as goal

pub returns-in_default-clause-is : goal.returns-in_default-clause-is
returns-in_default-clause-is g c v h = met_always _ _ v _ _ _ (ap option_copied c.in_default.is) c.constant-always.ensures.holds c.constant-always.ensures.holds

pub returns-clause-cells : goal.returns-clause-cells
returns-clause-cells g c = cells_kept _ _ _ _ _ _ (keeps_trans _ _ _ _ _ _ c.in_ok-other.ensures.keeps c.in_ok-must.ensures.keeps) c.in_ok-x.ensures.cells

pub returns-clause-is : goal.returns-clause-is
returns-clause-is g c v h = met_by _ _ _ _ _ _ v _ _ _ _ _ _ _ (ap option_copied c.in-Some.is) refl c.in_ok-other.ensures.keeps c.in_ok-must.ensures.keeps c.in_ok-x.ensures.made (c.in_ok-x.ensures.is v h) c.in_ok-other.ensures.holds c.in_ok-must.ensures.holds

pub returns-clause-known : goal.returns-clause-known
returns-clause-known g c = known_kept _ _ _ _ _ _ _ _ (keeps_trans _ _ _ _ _ _ c.in_ok-other.ensures.keeps c.in_ok-must.ensures.keeps) c.in_ok-x.ensures.cells c.in_ok-x.ensures.known
