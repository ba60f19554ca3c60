use Rattle.std.proofs.Common.{◌≡◌, true, false, ◌∙◌, sym}
use Rattle.law_designs.specs.Flattening.{flatten}
use Rattle.law_designs.specs.Definitions.{design_of_flat_text}
use Rattle.law_sound_texts.proofs.SetSizes.{same_sizes}
use Rattle.law_concrete.specs.Laws.{HasNoViolatingCase}
use Rattle.law_concrete.proofs.PosedCases.{is-case}
use Rattle.law_concrete.specs.Concrete.{concrete_case}
use Rattle.law_confirmed.proofs.confirmed.true_holds.Goals as goal

clash : true ≡ false → ⊥
clash e = cc

pub returns : goal.returns
returns c = λ text right u unit same sizes are bits nodes steps told run is_run vs i.
    let d = design_of_flat_text (flatten text) in
    let well = right.kinds in
    let exact = c.designs_are_exact.ensures text well right.single right.sets sizes (same_sizes text sizes well.4 are) in
    let none : HasNoViolatingCase d sizes unit = λ classes is_case path v.
    let t = told classes is_case in
    clash (sym v.is_violating ∙ c.verdicts_mean.ensures.none (concrete_case d sizes unit classes) (is-case d sizes exact unit classes is_case) bits nodes steps t.0 t.1 path v.are_states) in
    c.holds_in_text.ensures text right u unit same sizes are none run is_run vs i
