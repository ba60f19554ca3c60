-- `<->` and pairs of outcomes.
use Rattle.std.proofs.Common.{◌≡◌, List, [], ◌∷◌, ◌++◌, map, Bool, true, false, ◌&&◌, ◌||◌, Some, None, refl, sym, ap, ◌∙◌}
use Rattle.std.specs.List.{flat_map, list_any}
use Rattle.std.proofs.lemmas.List.{map-append}
use Rattle.law_lists.proofs.Anys.{any-flat_map, any-agree, any-or}
use Rattle.smv_core.specs.Values.{Truth, iff_of}
use Rattle.smv_core.specs.Outcome.{is_true}
use Rattle.law_obligations.specs.Right.{is_false, is_neither}
use Rattle.law_obligations.specs.Places.{AbsOutcome}
use Rattle.law_obligations.specs.May.{seen, shown}
use Rattle.law_obligations.specs.Sets.{pairs}
use Rattle.law_obligations.specs.Mix.{mix_by, iff_mix, is_there}
use Rattle.law_obligations.proofs.Anys.{any-pairs, any-first, any-second}
use Rattle.law_obligations.proofs.MixLaws.{same_mix, or_same, and_there, there_and, seen-shown}

flat-map : {X Y Z : Type 0} (f : Y → Z) (g : X → List Y) (xs : List X) → flat_map (λ x. map f (g x)) xs ≡ map f (flat_map g xs)
flat-map f g [] = refl
flat-map f g (x ∷ xs) = ap (λ l. map f (g x) ++ l) (flat-map f g xs) ∙ sym (map-append f (g x) (flat_map g xs))

pub pairs-map : {X Y V Z : Type 0} (f : V → Z) (g : X → Y → List V) (xs : List X) (ys : List Y) → pairs (λ x y. map f (g x y)) xs ys ≡ map f (pairs g xs ys)
pairs-map f g [] ys = refl
pairs-map f g (x ∷ xs) ys = ap (λ l. l ++ pairs (λ x y. map f (g x y)) xs ys) (flat-map f (g x) ys) ∙ (ap (λ l. map f (flat_map (g x) ys) ++ l) (pairs-map f g xs ys) ∙ sym (map-append f (flat_map (g x) ys) (pairs g xs ys)))

no_iff : (u v : Truth) → is_false (iff_of u v) ≡ ((is_false u && is_true v) || (is_true u && is_false v))
no_iff (Some true) (Some true) = refl
no_iff (Some true) (Some false) = refl
no_iff (Some true) None = refl
no_iff (Some false) (Some true) = refl
no_iff (Some false) (Some false) = refl
no_iff (Some false) None = refl
no_iff None v = refl

yes_iff : (u v : Truth) → is_true (iff_of u v) ≡ ((is_false u && is_false v) || (is_true u && is_true v))
yes_iff (Some true) (Some true) = refl
yes_iff (Some true) (Some false) = refl
yes_iff (Some true) None = refl
yes_iff (Some false) (Some true) = refl
yes_iff (Some false) (Some false) = refl
yes_iff (Some false) None = refl
yes_iff None v = refl

neither_iff : (u v : Truth) → is_neither (iff_of u v) ≡ (is_neither u || is_neither v)
neither_iff (Some true) (Some true) = refl
neither_iff (Some true) (Some false) = refl
neither_iff (Some true) None = refl
neither_iff (Some false) (Some true) = refl
neither_iff (Some false) (Some false) = refl
neither_iff (Some false) None = refl
neither_iff None v = refl

one : (b : Bool) → (b || false) ≡ b
one true = refl
one false = refl

-- `<->` of one of each of two lists, by their mixes
pub mix-iff : (us vs : List AbsOutcome) → is_there us ≡ true → is_there vs ≡ true → mix_by seen (pairs (λ u v. shown (iff_of (seen u) (seen v)) ∷ []) us vs) ≡ iff_mix (mix_by seen us) (mix_by seen vs)
mix-iff us vs there others = same_mix
    (part is_false (λ u v. (is_false (seen u) && is_true (seen v)) || (is_true (seen u) && is_false (seen v))) (λ u v. no_iff (seen u) (seen v)) ∙ (halves (λ u v. is_false (seen u) && is_true (seen v)) (λ u v. is_true (seen u) && is_false (seen v)) ∙ or_same (any-pairs (λ u. is_false (seen u)) (λ v. is_true (seen v)) us vs) (any-pairs (λ u. is_true (seen u)) (λ v. is_false (seen v)) us vs)))
    (part is_true (λ u v. (is_false (seen u) && is_false (seen v)) || (is_true (seen u) && is_true (seen v))) (λ u v. yes_iff (seen u) (seen v)) ∙ (halves (λ u v. is_false (seen u) && is_false (seen v)) (λ u v. is_true (seen u) && is_true (seen v)) ∙ or_same (any-pairs (λ u. is_false (seen u)) (λ v. is_false (seen v)) us vs) (any-pairs (λ u. is_true (seen u)) (λ v. is_true (seen v)) us vs)))
    (part is_neither (λ u v. is_neither (seen u) || is_neither (seen v)) (λ u v. neither_iff (seen u) (seen v)) ∙ (halves (λ u v. is_neither (seen u)) (λ u v. is_neither (seen v)) ∙ or_same (any-first (λ u. is_neither (seen u)) us vs ∙ and_there _ _ others) (any-second (λ v. is_neither (seen v)) us vs ∙ there_and _ _ there)))
  where
    part : (p : Truth → Bool) (q : AbsOutcome → AbsOutcome → Bool) → ((u v : AbsOutcome) → p (iff_of (seen u) (seen v)) ≡ q u v) → list_any (λ o. p (seen o)) (pairs (λ u v. shown (iff_of (seen u) (seen v)) ∷ []) us vs) ≡ list_any (λ u. list_any (q u) vs) us
    part p q e = any-flat_map (λ o. p (seen o)) (λ u. flat_map (λ v. shown (iff_of (seen u) (seen v)) ∷ []) vs) us
        ∙ any-agree (λ u. list_any (λ o. p (seen o)) (flat_map (λ v. shown (iff_of (seen u) (seen v)) ∷ []) vs)) (λ u. list_any (q u) vs) us (λ u.
        any-flat_map (λ o. p (seen o)) (λ v. shown (iff_of (seen u) (seen v)) ∷ []) vs
        ∙ any-agree (λ v. list_any (λ o. p (seen o)) (shown (iff_of (seen u) (seen v)) ∷ [])) (q u) vs (λ v. one (p (seen (shown (iff_of (seen u) (seen v))))) ∙ (ap p (seen-shown (iff_of (seen u) (seen v))) ∙ e u v)))

    halves : (p q : AbsOutcome → AbsOutcome → Bool) → list_any (λ u. list_any (λ v. p u v || q u v) vs) us ≡ (list_any (λ u. list_any (p u) vs) us || list_any (λ u. list_any (q u) vs) us)
    halves p q = any-agree (λ u. list_any (λ v. p u v || q u v) vs) (λ u. list_any (p u) vs || list_any (q u) vs) us (λ u. any-or (p u) (q u) vs) ∙ any-or (λ u. list_any (p u) vs) (λ u. list_any (q u) vs) us
