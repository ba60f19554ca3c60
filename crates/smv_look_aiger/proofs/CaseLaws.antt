-- The case of a number among those of a leaf.
use Rattle.std.proofs.Common.{◌≡◌, ◌∙◌, ℕ, zero, suc, ◌-◌, ◌<◌, ◌≤◌, List, [], ◌∷◌, length, Some, None, refl, sym, ap, arith}
use Rattle.std.specs.Prelude.{get_or, option_map, slice_get}
use Rattle.std.proofs.lemmas.List.{length-map}
use Rattle.std.proofs.lemmas.Option.{slice_get-map, slice_get-get_or}
use Rattle.smv_core.specs.declared.flat.Case.{Case as CaseData}
use Rattle.smv_decide.specs.Leaves.{classes_in}

nothing_there : {X : Type 0} (xs : List X) (place : ℕ) → length xs ≤ place → slice_get xs place ≡ None
nothing_there {X} [] place le = refl
nothing_there {X} (x ∷ xs) zero le = absurd (omega (arith, le))
nothing_there {X} (x ∷ xs) (suc place) le = nothing_there xs place (omega (arith, le))

-- no case has the number
pub no_case : (cases : List CaseData) (number place count : ℕ) → place ≡ number - 1 → count ≡ length cases → count ≤ place → (slice_get (classes_in cases) (number - 1) ≡ None) × (count ≡ length (classes_in cases))
no_case cases number place count e counted le =
    let long : length (classes_in cases) ≡ length cases = length-map cases (λ (c : CaseData). c.classes) in
    (nothing_there (classes_in cases) (number - 1) (omega (arith, long, counted, le, e)), omega (arith, long, counted))

-- one has it
pub one_case : (cases : List CaseData) (number place : ℕ) (case : CaseData) → place ≡ number - 1 → place < length cases → case ≡ get_or cases place case → slice_get (classes_in cases) (number - 1) ≡ Some case.classes
one_case cases number place case e lt is =
    ap (slice_get (classes_in cases)) (sym e)
    ∙ (slice_get-map (λ (c : CaseData). c.classes) cases place ∙ (ap (option_map (λ (c : CaseData). c.classes)) (slice_get-get_or cases place case lt) ∙ ap (λ (c : CaseData). Some c.classes) (sym is)))
