use Rattle.std.proofs.Common.{refl}
use Rattle.law_designs.specs.Flattening.{flatten}
use Rattle.law_designs.specs.Definitions.{design_of_flat_text}
use Rattle.law_sized_texts.proofs.Designs.{bare_script, claim-params, items-kinded, exact}
use Rattle.law_sized_texts.proofs.sized.designs_are_exact.Goals as goal

pub returns : goal.returns
returns c = λ text well single sets sizes are.
    let flat_text = flatten text in
    let d = design_of_flat_text flat_text in
    let kinded = c.flattened_texts_are_kinded.ensures text well in
    exact d sizes (c.designs_are_fit.ensures.fit flat_text kinded sets (c.constants_are_distinct.ensures text well.3))
    (c.scripts_are_checked.ensures text well single (bare_script d) refl (λ entry h. elim h [ ])) are (claim-params flat_text flat_text.items (items-kinded flat_text kinded))
