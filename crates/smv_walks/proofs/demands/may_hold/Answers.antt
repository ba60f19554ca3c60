use Rattle.std.proofs.Common.{sym, ◌∙◌}
use Rattle.smv_cells.proofs.SeenLaws.{cells_kept}
use Rattle.smv_outcomes.proofs.KnownLaws.{known_kept}
use Rattle.smv_walks.proofs.DemandLaws.{guard_held, no_guard}
use Rattle.smv_walks.proofs.demands.may_hold.Goals as goal

pub returns-in_default-clause-is : goal.returns-in_default-clause-is
returns-in_default-clause-is g c = no_guard _ _ _ _ _ _ _ _ c.as_slice-b.ensures (sym c.variable.ensures ∙ c.in_default.is)

pub returns-clause-is : goal.returns-clause-is
returns-clause-is g c = guard_held _ _ _ _ _ _ _ _ _ _ _ _ c.as_slice-b.ensures (sym c.variable.ensures ∙ c.in-Some.is) c.as_slice.ensures.value c.in_ok-offers.ensures.are c.in_ok-r.ensures.holds

pub returns-clause-cells : goal.returns-clause-cells
returns-clause-cells g c = cells_kept _ _ _ _ _ _ c.in_ok-r.ensures.keeps c.in_ok-offers.ensures.cells

pub returns-clause-known : goal.returns-clause-known
returns-clause-known g c = known_kept _ _ _ _ _ _ _ _ c.in_ok-r.ensures.keeps c.in_ok-offers.ensures.cells c.in_ok-offers.ensures.known
