-- Quantifiers: what is at the numbers and classes, with any part of what is at the rests.
use Rattle.std.proofs.Common.{◌≡◌, List, [], ◌∷◌, ◌++◌, map, Bool, true, false, ◌||◌, Some, None, refl, sym, ap, ◌∙◌}
use Rattle.std.specs.List.{flat_map, list_any, list_all}
use Rattle.std.proofs.lemmas.List.Folds.{list_any-append}
use Rattle.std.proofs.lemmas.List.{map-append}
use Rattle.law_lists.proofs.Anys.{any-flat_map, any-agree}
use Rattle.smv_core.specs.Values.{Truth, not_of, and_of, or_of, conjunction, disjunction}
use Rattle.smv_core.specs.Outcome.{is_true}
use Rattle.law_obligations.specs.Right.{is_false, is_neither}
use Rattle.law_obligations.specs.Places.{AbsOutcome}
use Rattle.law_obligations.specs.May.{seen, shown, quantified}
use Rattle.law_obligations.specs.Sets.{one_of_each, parts}
use Rattle.law_obligations.specs.Mix.{mix_by, not_mix, or_mix, or_all, or_none, or_zero, is_there}
use Rattle.law_obligations.specs.Combined.{unions}
use Rattle.law_obligations.proofs.MixLaws.{same_mix, or_is, or-two, not-by, mix-parts, mix-disjunction, there-choices, there-parts, seen-shown}

pub mix-ext : {X : Type 0} (f g : X → Truth) (xs : List X) → ((x : X) → f x ≡ g x) → mix_by f xs ≡ mix_by g xs
mix-ext f g xs e = same_mix (any-agree (λ x. is_false (f x)) (λ x. is_false (g x)) xs (λ x. ap is_false (e x))) (any-agree (λ x. is_true (f x)) (λ x. is_true (g x)) xs (λ x. ap is_true (e x))) (any-agree (λ x. is_neither (f x)) (λ x. is_neither (g x)) xs (λ x. ap is_neither (e x)))

-- what is there of some of several lists
pub mix-flat_map : {X Y : Type 0} (f : Y → Truth) (g : X → List Y) (xs : List X) → mix_by f (flat_map g xs) ≡ unions (map (λ x. mix_by f (g x)) xs)
mix-flat_map f g [] = refl
mix-flat_map f g (x ∷ xs) = same_mix
    (list_any-append (λ y. is_false (f y)) (g x) (flat_map g xs) ∙ ap (λ m. list_any (λ y. is_false (f y)) (g x) || m.no) (mix-flat_map f g xs))
    (list_any-append (λ y. is_true (f y)) (g x) (flat_map g xs) ∙ ap (λ m. list_any (λ y. is_true (f y)) (g x) || m.yes) (mix-flat_map f g xs))
    (list_any-append (λ y. is_neither (f y)) (g x) (flat_map g xs) ∙ ap (λ m. list_any (λ y. is_neither (f y)) (g x) || m.neither) (mix-flat_map f g xs))

not_not : (t : Truth) → not_of (not_of t) ≡ t
not_not (Some true) = refl
not_not (Some false) = refl
not_not None = refl

disjunction-not : {X : Type 0} (e : X → Truth) (us : List X) → disjunction (map e us) ≡ not_of (conjunction (map (λ x. not_of (e x)) us))
disjunction-not e [] = refl
disjunction-not e (u ∷ us) =
    ap (or_of (e u)) (disjunction-not e us)
    ∙ (or_is (e u) (not_of (conjunction (map (λ x. not_of (e x)) us))) ∙ ap (λ t. not_of (and_of (not_of (e u)) t)) (not_not (conjunction (map (λ x. not_of (e x)) us))))

pub mix-parts-any : {X : Type 0} (e : X → Truth) (ts : List X) → mix_by (λ us. disjunction (map e us)) (parts ts) ≡ or_zero (mix_by e ts)
mix-parts-any e ts =
    mix-ext (λ us. disjunction (map e us)) (λ us. not_of (conjunction (map (λ x. not_of (e x)) us))) (parts ts) (disjunction-not e)
    ∙ (not-by (λ us. conjunction (map (λ x. not_of (e x)) us)) (parts ts) ∙ ap not_mix (mix-parts (λ x. not_of (e x)) ts ∙ ap or_none (not-by e ts)))

or_assoc : (u v w : Truth) → or_of (or_of u v) w ≡ or_of u (or_of v w)
or_assoc (Some true) v w = refl
or_assoc (Some false) (Some true) w = refl
or_assoc (Some false) (Some false) (Some true) = refl
or_assoc (Some false) (Some false) (Some false) = refl
or_assoc (Some false) (Some false) None = refl
or_assoc (Some false) None (Some true) = refl
or_assoc (Some false) None (Some false) = refl
or_assoc (Some false) None None = refl
or_assoc None (Some true) w = refl
or_assoc None (Some false) (Some true) = refl
or_assoc None (Some false) (Some false) = refl
or_assoc None (Some false) None = refl
or_assoc None None (Some true) = refl
or_assoc None None (Some false) = refl
or_assoc None None None = refl

zero_or : (u : Truth) → or_of (Some false) u ≡ u
zero_or (Some true) = refl
zero_or (Some false) = refl
zero_or None = refl

disjunction-append : (us vs : List Truth) → disjunction (us ++ vs) ≡ or_of (disjunction us) (disjunction vs)
disjunction-append [] vs = sym (zero_or (disjunction vs))
disjunction-append (u ∷ us) vs = ap (or_of u) (disjunction-append us vs) ∙ sym (or_assoc u (disjunction us) (disjunction vs))

abbrev any_seen : List AbsOutcome → Truth
any_seen us = disjunction (map seen us)

abbrev some_seen : List AbsOutcome → List AbsOutcome → List AbsOutcome
some_seen us vs = shown (disjunction (map seen (us ++ vs))) ∷ []

-- a disjunction of one of each of these, and of any of those
pub mix-quantified-any : (at_named : List (List AbsOutcome)) (at_rests : List AbsOutcome) → list_all is_there at_named ≡ true →
    mix_by seen (quantified disjunction at_named at_rests) ≡ or_mix (or_all (map (mix_by seen) at_named)) (or_zero (mix_by seen at_rests))
mix-quantified-any at_named at_rests h =
    same_mix (part is_false) (part is_true) (part is_neither)
    ∙ (or-two any_seen any_seen (one_of_each at_named) (parts at_rests) (there-choices at_named h) (there-parts at_rests)
    ∙ (ap (λ m. or_mix m (mix_by any_seen (parts at_rests))) (mix-disjunction seen at_named h) ∙ ap (λ n. or_mix (or_all (map (mix_by seen) at_named)) n) (mix-parts-any seen at_rests)))
  where
    one : (b : Bool) → (b || false) ≡ b
    one true = refl
    one false = refl

    part : (p : Truth → Bool) → list_any (λ u. p (seen u)) (quantified disjunction at_named at_rests) ≡ list_any (λ us. list_any (λ vs. p (or_of (any_seen us) (any_seen vs))) (parts at_rests)) (one_of_each at_named)
    part p = any-flat_map (λ u. p (seen u)) (λ us. flat_map (some_seen us) (parts at_rests)) (one_of_each at_named)
        ∙ any-agree (λ us. list_any (λ u. p (seen u)) (flat_map (some_seen us) (parts at_rests))) (λ us. list_any (λ vs. p (or_of (any_seen us) (any_seen vs))) (parts at_rests)) (one_of_each at_named) (λ us.
        any-flat_map (λ u. p (seen u)) (some_seen us) (parts at_rests)
        ∙ any-agree (λ vs. list_any (λ u. p (seen u)) (some_seen us vs)) (λ vs. p (or_of (any_seen us) (any_seen vs))) (parts at_rests) (λ vs. one (p (seen (shown (disjunction (map seen (us ++ vs)))))) ∙ ap p (seen-shown (disjunction (map seen (us ++ vs))) ∙ (ap disjunction (map-append seen us vs) ∙ disjunction-append (map seen us) (map seen vs)))))

-- a quantifier's outcomes are truth values that are shown
pub quantified-shown : (join : List Truth → Truth) (at_named : List (List AbsOutcome)) (at_rests : List AbsOutcome) →
    quantified join at_named at_rests ≡ map shown (flat_map (λ us. flat_map (λ vs. join (map seen (us ++ vs)) ∷ []) (parts at_rests)) (one_of_each at_named))
quantified-shown join at_named at_rests = over (one_of_each at_named)
  where
    inner : (us : List AbsOutcome) (pss : List (List AbsOutcome)) → flat_map (λ vs. shown (join (map seen (us ++ vs))) ∷ []) pss ≡ map shown (flat_map (λ vs. join (map seen (us ++ vs)) ∷ []) pss)
    inner us [] = refl
    inner us (vs ∷ pss) = ap (λ l. shown (join (map seen (us ++ vs))) ∷ l) (inner us pss)

    over : (uss : List (List AbsOutcome)) → flat_map (λ us. flat_map (λ vs. shown (join (map seen (us ++ vs))) ∷ []) (parts at_rests)) uss ≡ map shown (flat_map (λ us. flat_map (λ vs. join (map seen (us ++ vs)) ∷ []) (parts at_rests)) uss)
    over [] = refl
    over (us ∷ uss) =
        ap (λ l. l ++ flat_map (λ us. flat_map (λ vs. shown (join (map seen (us ++ vs))) ∷ []) (parts at_rests)) uss) (inner us (parts at_rests))
        ∙ (ap (λ l. map shown (flat_map (λ vs. join (map seen (us ++ vs)) ∷ []) (parts at_rests)) ++ l) (over uss) ∙ sym (map-append shown (flat_map (λ vs. join (map seen (us ++ vs)) ∷ []) (parts at_rests)) (flat_map (λ us. flat_map (λ vs. join (map seen (us ++ vs)) ∷ []) (parts at_rests)) uss)))
