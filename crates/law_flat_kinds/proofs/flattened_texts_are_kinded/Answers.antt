use Rattle.std.specs.Prelude.{[]}
use Rattle.smv_core.specs.Types.{types_from}
use Rattle.smv_core.specs.FlatOrder.{main}
use Rattle.law_flat_kinds.proofs.Kinded.{text-kinded}
use Rattle.law_flat_kinds.proofs.flattened_texts_are_kinded.Goals as goal

pub returns : goal.returns
returns c = λ text h. text-kinded text h (c.families_are_found.ensures text h.3) (λ n le. c.families_are_deep_enough.ensures text h.3 (types_from [] text.tops) n le [] main)
