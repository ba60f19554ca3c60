-- Reads: an element for each choice of indexes, taken index by index.
use Rattle.std.proofs.Common.{◌≡◌, List, [], ◌∷◌, ◌++◌, map, Bool, true, false, ◌||◌, Option, Some, None, refl, sym, ap, ◌∙◌}
use Rattle.std.specs.List.{list_any, list_all, zip}
use Rattle.std.specs.Option.{option_map}
use Rattle.std.proofs.lemmas.List.{append-nil, append_assoc}
use Rattle.law_lists.proofs.Anys.{any-agree}
use Rattle.law_lists.proofs.Booleans.{left_of, right_of}
use Rattle.smv_core.specs.declared.flat.Simple.{Simple}
use Rattle.law_obligations.specs.Sets.{one_of_each, all_there}
use Rattle.law_obligations.specs.Places.{Place, World, AbsOutcome, places_in}
use Rattle.law_obligations.specs.May.{place_within}
use Rattle.law_obligations.specs.Mix.{is_there}
use Rattle.law_obligations.specs.ReadOutcomes.{where_within, found, within_all, found_from}
use Rattle.law_obligations.proofs.Anys.{any-choices}
use Rattle.law_obligations.proofs.MixLaws.{there-choices}

module _ (w : World) (outside : Bool) (inside : List Place → Bool) where
  abbrev found_at : Option (List Place) → Bool
  found_at o = found outside inside o

  abbrev all_within : List Simple → List AbsOutcome → Option (List Place)
  all_within over us = within_all w over us

  abbrev from : List Place → List Simple → List (List AbsOutcome) → Bool
  from ps over uss = found_from w outside inside ps over uss

  last : (b : Bool) → (b || false) ≡ b
  last true = refl
  last false = refl

  same-always : {X : Type 0} (b : Bool) (xs : List X) → is_there xs ≡ true → list_any (λ x. b) xs ≡ b
  same-always b [] h = absurd (cc)
  same-always true (x ∷ xs) h = refl
  same-always false (x ∷ []) h = refl
  same-always false (x ∷ (y ∷ xs)) h = same-always false (y ∷ xs) refl

  further : (ps : List Place) (q : Place) (o : Option (List Place)) → found_at (option_map (λ qs. ps ++ qs) (option_map (λ qs. q ∷ qs) o)) ≡ found_at (option_map (λ qs. (ps ++ q ∷ []) ++ qs) o)
  further ps q None = refl
  further ps q (Some qs) = ap inside (sym (append_assoc ps (q ∷ []) qs))

  pub found-choices : (ps : List Place) (over : List Simple) (uss : List (List AbsOutcome)) → list_all is_there uss ≡ true →
      list_any (λ us. found_at (option_map (λ qs. ps ++ qs) (all_within over us))) (one_of_each uss) ≡ from ps over uss
  found-choices ps [] [] h = last (inside (ps ++ [])) ∙ ap inside (append-nil ps)
  found-choices ps (t ∷ over) [] h = last (inside (ps ++ [])) ∙ ap inside (append-nil ps)
  found-choices ps [] (us ∷ uss) h =
      any-choices (λ vs. found_at (option_map (λ qs. ps ++ qs) (all_within [] vs))) us uss
      ∙ (any-agree (λ u. list_any (λ vs. found_at (option_map (λ qs. ps ++ qs) (all_within [] (u ∷ vs)))) (one_of_each uss)) (λ u. from ps [] uss) us (λ u.
      any-agree (λ vs. found_at (option_map (λ qs. ps ++ qs) (all_within [] (u ∷ vs)))) (λ vs. found_at (option_map (λ qs. ps ++ qs) (all_within [] vs))) (one_of_each uss) (λ vs. none_over vs) ∙ found-choices ps [] uss (right_of (is_there us) (list_all is_there uss) h))
      ∙ same-always (from ps [] uss) us (left_of (is_there us) (list_all is_there uss) h))
    where
      none_over : (vs : List AbsOutcome) → inside (ps ++ []) ≡ found_at (option_map (λ qs. ps ++ qs) (all_within [] vs))
      none_over [] = refl
      none_over (v ∷ vs) = refl
  found-choices ps (t ∷ over) (us ∷ uss) h =
      any-choices (λ vs. found_at (option_map (λ qs. ps ++ qs) (all_within (t ∷ over) vs))) us uss
      ∙ any-agree (λ u. list_any (λ vs. found_at (option_map (λ qs. ps ++ qs) (all_within (t ∷ over) (u ∷ vs)))) (one_of_each uss)) (λ u. where_within outside (λ q. from (ps ++ q ∷ []) over uss) (place_within (places_in w t) u)) us (λ u. at (λ q. found-choices (ps ++ q ∷ []) over uss (right_of (is_there us) (list_all is_there uss) h)) (place_within (places_in w t) u))
    where
      at : ((q : Place) → list_any (λ vs. found_at (option_map (λ qs. (ps ++ q ∷ []) ++ qs) (all_within over vs))) (one_of_each uss) ≡ from (ps ++ q ∷ []) over uss) →
          (o : AbsOutcome) → list_any (λ vs. found_at (option_map (λ qs. ps ++ qs) (all_there (o ∷ map (λ (t, u). place_within (places_in w t) u) (zip over vs))))) (one_of_each uss) ≡ where_within outside (λ q. from (ps ++ q ∷ []) over uss) o
      at goes None = same-always outside (one_of_each uss) (there-choices uss (right_of (is_there us) (list_all is_there uss) h))
      at goes (Some q) = any-agree (λ vs. found_at (option_map (λ qs. ps ++ qs) (option_map (λ qs. q ∷ qs) (all_within over vs)))) (λ vs. found_at (option_map (λ qs. (ps ++ q ∷ []) ++ qs) (all_within over vs))) (one_of_each uss) (λ vs. further ps q (all_within over vs)) ∙ goes q

  no_prefix : (o : Option (List Place)) → found_at o ≡ found_at (option_map (λ qs. [] ++ qs) o)
  no_prefix None = refl
  no_prefix (Some qs) = refl

  pub found-within : (over : List Simple) (uss : List (List AbsOutcome)) → list_all is_there uss ≡ true → list_any (λ us. found_at (all_within over us)) (one_of_each uss) ≡ from [] over uss
  found-within over uss h = any-agree (λ us. found_at (all_within over us)) (λ us. found_at (option_map (λ qs. [] ++ qs) (all_within over us))) (one_of_each uss) (λ us. no_prefix (all_within over us)) ∙ found-choices [] over uss h
