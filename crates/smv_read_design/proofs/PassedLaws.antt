-- A loop for the place of the first that passes a test.
use Rattle.std.proofs.Common.{◌≡◌, ◌∙◌, ℕ, zero, suc, ◌+◌, ◌<◌, ◌≤◌, List, [], ◌∷◌, length, Bool, true, false, refl, sym, ap, subst, Option, Some, None, ◌⊎◌, inl, inr, arith}
use Rattle.std.specs.Prelude.{if◌then◌else◌, option_map}
use Rattle.std.specs.List.{slice_get}
use Rattle.law_lists.proofs.Options.{some_is}
use Rattle.law_obligations.specs.Outlines.{place_of}

-- none before this place passes
pub Passed : {X : Type 0} → (X → Bool) → List X → ℕ → Type 0
Passed {X} test xs i = (k : ℕ) → k < i → (x : X) → slice_get xs k ≡ Some x → test x ≡ false

module _ {X : Type 0} (test : X → Bool) where
  pub none_passed : (xs : List X) → Passed test xs 0
  unfolding Passed
  none_passed xs k lt x at = absurd (omega arith)

  behind : (x : X) (xs : List X) (i : ℕ) → Passed test (x ∷ xs) (suc i) → Passed test xs i
  unfolding Passed
  behind x xs i passed k lt y at = passed (suc k) (omega arith) y at

  first_fails : (x : X) (xs : List X) (i : ℕ) → Passed test (x ∷ xs) (suc i) → test x ≡ false
  unfolding Passed
  first_fails x xs i passed = passed 0 (omega arith) x refl

  pub one_more : (xs : List X) (i : ℕ) (x : X) → Passed test xs i → slice_get xs i ≡ Some x → test x ≡ false → Passed test xs (i + 1)
  unfolding Passed
  one_more xs i x passed at fails k lt y is = by (split k i (omega arith))
    where
      split : (k i : ℕ) → k ≤ i → (k < i) ⊎ (k ≡ i)
      split zero zero le = inr refl
      split zero (suc i) le = inl (omega arith)
      split (suc k) zero le = absurd (omega arith)
      split (suc k) (suc i) le = elim (split k i (omega arith)) [ inl lt ↦ inl (omega arith) | inr e ↦ inr (ap (λ n. suc n) e) ]

      by : (k < i) ⊎ (k ≡ i) → test y ≡ false
      by (inl lt) = passed k lt y is
      by (inr e) = subst (λ (z : X). test z ≡ false) (some_is (sym at ∙ subst (λ (n : ℕ). slice_get xs n ≡ Some y) e is)) fails

  pub found_at : (xs : List X) (i : ℕ) (x : X) → Passed test xs i → slice_get xs i ≡ Some x → test x ≡ true → place_of test xs ≡ Some i
  found_at [] i x passed at is = absurd (cc)
  found_at (y ∷ xs) zero x passed at is = ap (λ (b : Bool). if b then Some 0 else option_map (λ k. suc k) (place_of test xs)) (ap test (some_is at) ∙ is)
  found_at (y ∷ xs) (suc i) x passed at is =
      ap (λ (b : Bool). if b then Some 0 else option_map (λ k. suc k) (place_of test xs)) (first_fails y xs i passed)
      ∙ ap (λ (o : Option ℕ). option_map (λ k. suc k) o) (found_at xs i x (behind y xs i passed) at is)

  pub none_found : (xs : List X) (i : ℕ) → length xs ≤ i → Passed test xs i → place_of test xs ≡ None
  none_found [] i le passed = refl
  none_found (y ∷ xs) zero le passed = absurd (omega arith)
  none_found (y ∷ xs) (suc i) le passed =
      ap (λ (b : Bool). if b then Some 0 else option_map (λ k. suc k) (place_of test xs)) (first_fails y xs i passed)
      ∙ ap (λ (o : Option ℕ). option_map (λ k. suc k) o) (none_found xs i (omega arith) (behind y xs i passed))
