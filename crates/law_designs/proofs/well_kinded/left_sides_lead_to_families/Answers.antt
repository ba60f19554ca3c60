use Rattle.std.specs.Prelude.{[]}
use Rattle.smv_core.specs.Types.{types_from}
use Rattle.smv_core.specs.FlatOrder.{main}
use Rattle.law_designs.proofs.RightText.{well_kinded-whole}
use Rattle.law_designs.proofs.well_kinded.left_sides_lead_to_families.Goals as goal

pub returns : goal.returns
returns c = λ text h. well_kinded-whole text h (λ n le. c.families_are_deep_enough.ensures text h.3 (types_from [] text.tops) n le [] main)
