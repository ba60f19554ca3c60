-- Chains of sums and differences.
use Rattle.std.proofs.Common.{◌≡◌, List, [], ◌∷◌, Bool, true, false, ◌||◌, refl, ◌∙◌}
use Rattle.std.specs.List.{flat_map, list_any}
use Rattle.law_lists.proofs.Anys.{any-flat_map, any-agree}
use Rattle.smv_core.specs.Values.{add}
use Rattle.smv_core.specs.declared.flat.FlatExpr.{FlatExpr}
use Rattle.smv_core.specs.declared.flat.FlatSigned.{FlatSigned, out-FlatSigned}
use Rattle.law_obligations.specs.Places.{AbsOutcome, valued, as_place}
use Rattle.law_obligations.specs.Sets.{pairs}
use Rattle.law_obligations.specs.Combined.{summed, sum_test}

one : (b : Bool) → (b || false) ≡ b
one true = refl
one false = refl

pub any-summed : (each : FlatExpr → List AbsOutcome) (more : List FlatSigned) (us : List AbsOutcome) (p : AbsOutcome → Bool) → list_any p (summed each more us) ≡ list_any (sum_test each more p) us
any-summed each [] us p = refl
any-summed each (x ∷ xs) us p =
    any-summed each xs (pairs (λ u v. as_place (add (out-FlatSigned x).minus (valued u) (valued v)) ∷ []) us (each (out-FlatSigned x).of)) p
    ∙ (any-flat_map (sum_test each xs p) (λ u. flat_map (λ v. as_place (add (out-FlatSigned x).minus (valued u) (valued v)) ∷ []) (each (out-FlatSigned x).of)) us
    ∙ any-agree (λ u. list_any (sum_test each xs p) (flat_map (λ v. as_place (add (out-FlatSigned x).minus (valued u) (valued v)) ∷ []) (each (out-FlatSigned x).of))) (sum_test each (x ∷ xs) p) us (λ u.
    any-flat_map (sum_test each xs p) (λ v. as_place (add (out-FlatSigned x).minus (valued u) (valued v)) ∷ []) (each (out-FlatSigned x).of)
    ∙ any-agree (λ v. list_any (sum_test each xs p) (as_place (add (out-FlatSigned x).minus (valued u) (valued v)) ∷ [])) (λ v. sum_test each xs p (as_place (add (out-FlatSigned x).minus (valued u) (valued v)))) (each (out-FlatSigned x).of) (λ v. one (sum_test each xs p (as_place (add (out-FlatSigned x).minus (valued u) (valued v)))))))
