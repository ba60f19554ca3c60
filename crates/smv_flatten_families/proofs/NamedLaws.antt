-- Types by their names, among the first ones of a text.
use Rattle.std.proofs.Common.{◌≡◌, ℕ, zero, suc, ◌<◌, ◌≤◌, List, [], ◌∷◌, length, map, take, min, Bool, true, false, cond, refl, ap, sym, ◌∙◌, arith}
use Rattle.std.specs.Prelude.{Option, Some, None, option_map, option_and_then, slice_get, nat_lt}
use Rattle.std.specs.Option.{option_map_or}
use Rattle.std.proofs.lemmas.Option.{slice_get-map}
use Rattle.std.proofs.lemmas.List.{take-map, length-map}
use Rattle.std.proofs.lemmas.Bool.Decides.{nat_tests}
use Rattle.smv_core.specs.Values.{Name}
use Rattle.smv_core.specs.Types.{find_name}
use Rattle.name_index.specs.Position.{position}
use Rattle.name_index.proofs.Finding.{position-within, position-take, find_name-pairs}

slice-take : {X : Type 0} (xs : List X) (k i : ℕ) → i < k → slice_get (take k xs) i ≡ slice_get xs i
slice-take xs zero i h = absurd (omega (arith, h))
slice-take [] (suc k) i h = refl
slice-take (x ∷ xs) (suc k) zero h = refl
slice-take (x ∷ xs) (suc k) (suc i) h = slice-take xs k i (omega (arith, h))

abbrev below : ℕ → Option ℕ → Option ℕ
below k o = option_and_then (λ i. cond (nat_lt i k) (Some i) None) o

module _ {S L : Type 0} (shown : S → List L) (pairs : List (Name × S)) where
  -- what stands beside a name that was found, or nothing
  abbrev shown_at : Option S → List L
  shown_at o = option_map_or shown o []

  -- what stands beside a name among the first pairs
  first-pairs : (place : ℕ) (name : Name) → find_name (take place pairs) name ≡ option_and_then (λ i. option_map (λ pair. pair.1) (slice_get (take place pairs) i)) (below place (position (map (λ pair. pair.0) pairs) name))
  first-pairs place name =
      find_name-pairs (take place pairs) name
      ∙ ap (λ o. option_and_then (λ i. option_map (λ pair. pair.1) (slice_get (take place pairs) i)) o) (ap (λ l. position l name) (sym (take-map (λ pair. pair.0) place pairs)) ∙ position-take place (map (λ pair. pair.0) pairs) name)

  module _ {F : Type 0} (held : F → List L) (names : List Name) (forms : List F) (place : ℕ) (name : Name) (same : names ≡ map (λ pair. pair.0) (take (length forms) pairs))
      (formed : map held forms ≡ map (λ pair. shown pair.1) (take (length forms) pairs)) (enough : min place (length pairs) ≤ length forms) where
    abbrev code : Option ℕ → List L
    code found = option_map_or held (option_and_then (λ i. cond (nat_lt i place) (slice_get forms i) None) found) []

    form-at : (i : ℕ) → i < length forms → option_map_or held (slice_get forms i) [] ≡ shown_at (option_map (λ pair. pair.1) (slice_get pairs i))
    form-at i h =
        split (slice_get forms i) ∙ ap (λ o. option_map_or (λ (l : List L). l) o []) (sym (slice_get-map held forms i) ∙ ap (λ l. slice_get l i) formed ∙ slice_get-map (λ pair. shown pair.1) (take (length forms) pairs) i)
        ∙ join (slice_get (take (length forms) pairs) i) ∙ ap (λ o. shown_at (option_map (λ pair. pair.1) o)) (slice-take pairs (length forms) i h)
      where
        split : (o : Option F) → option_map_or held o [] ≡ option_map_or (λ (l : List L). l) (option_map held o) []
        split None = refl
        split (Some f) = refl

        join : (o : Option (Name × S)) → option_map_or (λ (l : List L). l) (option_map (λ pair. shown pair.1) o) [] ≡ shown_at (option_map (λ pair. pair.1) o)
        join None = refl
        join (Some pair) = refl

    below-is : (i k : ℕ) → i < k → nat_lt i k ≡ true
    below-is i k h = grind (arith, nat_tests)

    below-not : (i k : ℕ) → k ≤ i → nat_lt i k ≡ false
    below-not i k h = grind (arith, nat_tests)

    by : (o : Option ℕ) → ((i : ℕ) → o ≡ Some i → i < length pairs) → shown_at (option_and_then (λ i. option_map (λ pair. pair.1) (slice_get (take place pairs) i)) (below place o)) ≡ code (below (length forms) o)
    by None within = refl
    by (Some i) within = at (nat_lt i place) refl
      where
        at : (b : Bool) → nat_lt i place ≡ b → shown_at (option_and_then (λ i. option_map (λ pair. pair.1) (slice_get (take place pairs) i)) (cond b (Some i) None)) ≡ code (below (length forms) (Some i))
        at true e =
            let near : i < place = grind (arith, nat_tests) in
            let long : i < length pairs = within i refl in
            let held_too : i < length forms = omega (arith, near, long, enough) in
            ap (λ o. shown_at (option_map (λ pair. pair.1) o)) (slice-take pairs place i near) ∙ sym (form-at i held_too)
            ∙ sym (ap (λ b. code (cond b (Some i) None)) (below-is i (length forms) held_too) ∙ ap (λ b. option_map_or held (cond b (slice_get forms i) None) []) e)
        at false e = sym (far (nat_lt i (length forms)))
          where
            far : (c : Bool) → code (cond c (Some i) None) ≡ []
            far true = ap (λ b. option_map_or held (cond b (slice_get forms i) None) []) e
            far false = refl

    -- a form that is found by its name
    pub form-named : shown_at (find_name (take place pairs) name) ≡ code (position names name)
    form-named =
        ap shown_at (first-pairs place name) ∙ by (position (map (λ pair. pair.0) pairs) name) (λ i e. grown i (position-within (map (λ pair. pair.0) pairs) name i e))
        ∙ ap code (sym (ap (λ l. position l name) (same ∙ sym (take-map (λ pair. pair.0) (length forms) pairs)) ∙ position-take (length forms) (map (λ pair. pair.0) pairs) name))
      where
        grown : (i : ℕ) → i < length (map (λ pair. pair.0) pairs) → i < length pairs
        grown i h = let e : length (map (λ pair. pair.0) pairs) ≡ length pairs = length-map pairs (λ pair. pair.0) in omega (arith, h, e)
