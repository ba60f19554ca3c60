use Rattle.std.proofs.Common.{refl, sym, subst}
use Rattle.smv_cells.proofs.SeenLaws.{cells_kept}
use Rattle.smv_targets.specs.Targets.{AreAtMade}
use Rattle.smv_targets.proofs.TargetLaws.{element_target}
use Rattle.smv_targets.proofs.cell_targets.target_of.Goals as goal

pub returns-clause-is : goal.returns-clause-is
returns-clause-is g c v h ps are element =
    element_target _ _ _ _ _ _ v h _ ps element _ _ _ _ _ _ _ _ are c.as_slice.ensures c.as_slice-places.ensures.value c.as_slice-2.ensures.value refl c.from_vec.ensures
    (c.in_ok-every.ensures v.world v.kept h.world) c.in_ok-table.ensures.spots (c.in_ok-table.ensures.holds v.world h.world) (c.in_ok-offers.ensures.any v.world h.world) c.constant.ensures.holds c.constant-2.ensures.holds

pub returns-clause-cells : goal.returns-clause-cells
returns-clause-cells g c = cells_kept _ _ _ _ _ _ c.in_ok-table.ensures.keeps c.in_ok-offers.ensures.cells

pub returns-clause-made : goal.returns-clause-made
returns-clause-made g c = record { table = subst (AreAtMade _) (sym c.from_vec.ensures) c.in_ok-table.ensures.made; always = c.constant.ensures.made; never = c.constant-2.ensures.made }
