-- A run with monitors.
use Rattle.law_lists.proofs.Booleans.{impossible}
use Rattle.std.proofs.lemmas.Bool.{cases_Bool, not_from_false}
use Rattle.std.proofs.Common.{◌≡◌, ◌⊎◌, inl, inr, ℕ, zero, suc, List, [], ◌∷◌, filter, Option, Some, None, Bool, true, false, ◌||◌, cond, All, Contains, nat_eq, eqb-true, refl, sym, ap, ◌∙◌, subst, arith, true≢false}
use Rattle.std.proofs.lemmas.List.Elements.{All-head, All-tail, All-cons, All-nil, All-contains_itself}
use Rattle.smv_core.specs.Values.{Name, Path, Value, number, constant, scalar, ordinal, Sizes, same, is_in, values_of}
use Rattle.smv_core.specs.Types.{Family}
use Rattle.smv_core.specs.FlatOrder.{TextDesign}
use Rattle.smv_core.specs.Outcome.{State}
use Rattle.smv_core.specs.Allowed.{allowed, allowed_by_base}
use Rattle.smv_core.specs.Sound.{indexes_in, AtEachTime, IsTyped, MeetsBase}
use Rattle.law_watched_runs.specs.Extended.{is_fresh, is_kept, greatest, IsGiven, Extends, Agree, AgreeBefore, with_monitors, extended, RunsExtend}
use Rattle.law_watched_runs.proofs.Extended.{all-each, bases-same, all-of-two}

-- ---- the value 1 in a list

pub one-same : (v : Value) → same (number 1) v ≡ true → v ≡ number 1
one-same (number n) h = ap number (sym (eq-of 1 n h))
  where
    eq-of : (a b : ℕ) → nat_eq a b ≡ true → a ≡ b
    eq-of a b e = eqb-true a b e
one-same (constant a) h = absurd (true≢false (sym h))
one-same (scalar t n) h = absurd (true≢false (sym h))
one-same (ordinal t n) h = absurd (true≢false (sym h))

pub one-in : (vs : List Value) → is_in vs (number 1) ≡ true → Contains vs (number 1)
one-in [] h = absurd (true≢false (sym h))
one-in (v ∷ vs) h = by_first (same (number 1) v) refl h (one-in vs)
  where
    behind : Contains vs (number 1) → Contains (v ∷ vs) (number 1)
    behind (k, l, e) = (suc k, omega (arith, l), e)

    by_first : (b : Bool) → same (number 1) v ≡ b → b || is_in vs (number 1) ≡ true → (is_in vs (number 1) ≡ true → Contains vs (number 1)) → Contains (v ∷ vs) (number 1)
    by_first true e k rest = (0, omega arith, one-same v e)
    by_first false e k rest = behind (rest k)

pub in-one : (vs : List Value) → Contains vs (number 1) → is_in vs (number 1) ≡ true
in-one [] (k, l, e) = absurd (omega (arith, l))
in-one (v ∷ vs) (zero, l, e) = ap (λ x. same (number 1) x || is_in vs (number 1)) e
in-one (v ∷ vs) (suc k, l, e) = or-true (same (number 1) v) (in-one vs (k, omega (arith, l), e))
  where
    or-true : (b : Bool) → is_in vs (number 1) ≡ true → b || is_in vs (number 1) ≡ true
    or-true true h = refl
    or-true false h = h

greatest-bit : (vs : List Value) → Contains (number 0 ∷ number 1 ∷ []) (greatest vs)
greatest-bit vs = by_test (is_in vs (number 1))
  where
    by_test : (b : Bool) → Contains (number 0 ∷ number 1 ∷ []) (cond b (number 1) (number 0))
    by_test true = (1, omega arith, refl)
    by_test false = (0, omega arith, refl)

from-filter : {X : Type 0} (P : X → Type 0) (keep : X → Bool) (xs : List X) → All P (filter keep xs) → All (λ x. keep x ≡ true → P x) xs
from-filter P keep [] h = All-nil (λ x. keep x ≡ true → P x)
from-filter P keep (x ∷ xs) h = by_test (keep x) refl h (from-filter P keep xs)
  where
    by_test : (b : Bool) → keep x ≡ b → All P (cond b (x ∷ filter keep xs) (filter keep xs)) → (All P (filter keep xs) → All (λ y. keep y ≡ true → P y) xs) → All (λ y. keep y ≡ true → P y) (x ∷ xs)
    by_test true e k rest = All-cons (λ y. keep y ≡ true → P y) x xs (λ t. All-head P x (filter keep xs) k) (rest (All-tail P x (filter keep xs) k))
    by_test false e k rest = All-cons (λ y. keep y ≡ true → P y) x xs (λ t. impossible (keep x) t e) (rest k)

module _ (fresh : List Name) (layer : Name) (sizes : Sizes) (d e : TextDesign) (extends : Extends fresh layer sizes d e) where
  pub old-value : (before : Option State) (s : State) → Agree fresh s (with_monitors fresh layer e sizes before s)
  old-value before s p h vs = ap (λ b. cond b (greatest (allowed e sizes (Some layer) (record { path = p; indexes = vs }) before s)) (s p vs)) h

  pub new-value : (before : Option State) (s : State) (p : Path) → is_fresh fresh p ≡ true → (vs : List Value) → with_monitors fresh layer e sizes before s p vs ≡ greatest (allowed e sizes (Some layer) (record { path = p; indexes = vs }) before s)
  new-value before s p h vs = ap (λ b. cond b (greatest (allowed e sizes (Some layer) (record { path = p; indexes = vs }) before s)) (s p vs)) h

  -- a fact of each element of the second design, from that of each of the first
  element-new : (Q R : Family → List Value → Type 0) → All (λ f. All (Q f) (indexes_in sizes f)) d.families → ((f : Family) → is_fresh fresh f.path ≡ false → (vs : List Value) → Q f vs → R f vs) →
      ((f : Family) → Contains e.families f → is_fresh fresh f.path ≡ true → (vs : List Value) → Contains (indexes_in sizes f) vs → R f vs) → All (λ f. All (R f) (indexes_in sizes f)) e.families
  element-new Q R all of-old of-new =
      all-of-two (λ f. is_kept fresh f ≡ true → All (Q f) (indexes_in sizes f)) (Contains e.families) (λ f. All (R f) (indexes_in sizes f)) one e.families
      (from-filter (λ f. All (Q f) (indexes_in sizes f)) (is_kept fresh) e.families (subst (All (λ f. All (Q f) (indexes_in sizes f))) (sym extends.families) all)) (All-contains_itself e.families)
    where
      one : (f : Family) → (is_kept fresh f ≡ true → All (Q f) (indexes_in sizes f)) → Contains e.families f → All (R f) (indexes_in sizes f)
      one f q has = by_test (cases_Bool (is_fresh fresh f.path))
        where
          by_test : (is_fresh fresh f.path ≡ true) ⊎ (is_fresh fresh f.path ≡ false) → All (R f) (indexes_in sizes f)
          by_test (inl new) = all-each (Contains (indexes_in sizes f)) (R f) (λ vs. of-new f has new vs) (indexes_in sizes f) (All-contains_itself (indexes_in sizes f))
          by_test (inr old) = all-each (Q f) (R f) (of-old f old) (indexes_in sizes f) (q (not_from_false (is_fresh fresh f.path) old))

  typed-new : (before : Option State) (s : State) → IsTyped d sizes s → IsTyped e sizes (with_monitors fresh layer e sizes before s)
  typed-new before s typed = element-new (λ f vs. Contains (values_of sizes f.value) (s f.path vs)) (λ f vs. Contains (values_of sizes f.value) (with_monitors fresh layer e sizes before s f.path vs)) typed
      (λ f old vs h. subst (Contains (values_of sizes f.value)) (sym (old-value before s f.path old vs)) h)
      (λ f has new vs k. subst (λ t. Contains (values_of sizes t) (with_monitors fresh layer e sizes before s f.path vs)) (sym (extends.bits f has new))
      (subst (Contains (number 0 ∷ number 1 ∷ [])) (sym (new-value before s f.path new vs)) (greatest-bit (allowed e sizes (Some layer) (record { path = f.path; indexes = vs }) before s))))

  meets-new : (before after : Option State) → AgreeBefore fresh before after → (s : State) → MeetsBase d sizes before s → MeetsBase e sizes after (with_monitors fresh layer e sizes after s)
  meets-new before after past s meets =
      element-new (λ f vs. Contains (allowed_by_base d sizes f (record { path = f.path; indexes = vs }) before s) (s f.path vs)) (λ f vs. Contains (allowed_by_base e sizes f (record { path = f.path; indexes = vs }) after (with_monitors fresh layer e sizes after s)) (with_monitors fresh layer e sizes after s f.path vs)) meets
      (λ f old vs h. subst (Contains (allowed_by_base e sizes f (record { path = f.path; indexes = vs }) after (with_monitors fresh layer e sizes after s))) (sym (old-value after s f.path old vs))
      (subst (λ l. Contains l (s f.path vs)) (sym (bases-same fresh layer sizes d e extends f old vs before after past s (with_monitors fresh layer e sizes after s) (old-value after s))) h))
      (λ f has is_new vs k. of-new f is_new vs (extends.given f has is_new vs k))
    where
      of-new : (f : Family) → is_fresh fresh f.path ≡ true → (vs : List Value) → IsGiven layer e sizes f vs →
          Contains (allowed_by_base e sizes f (record { path = f.path; indexes = vs }) after (with_monitors fresh layer e sizes after s)) (with_monitors fresh layer e sizes after s f.path vs)
      of-new f is_new vs g =
          subst (λ l. Contains l (with_monitors fresh layer e sizes after s f.path vs)) (sym (g.given after (with_monitors fresh layer e sizes after s)))
          (subst (Contains (g.values after)) (sym (new-value after s f.path is_new vs ∙ ap greatest (g.by_layer after s))) (g.filled after))

  run-typed : (before : Option State) (run : List State) → All (IsTyped d sizes) run → All (IsTyped e sizes) (extended fresh layer e sizes before run)
  run-typed before [] h = All-nil (IsTyped e sizes)
  run-typed before (s ∷ run) h =
      All-cons (IsTyped e sizes) (with_monitors fresh layer e sizes before s) (extended fresh layer e sizes (Some (with_monitors fresh layer e sizes before s)) run)
      (typed-new before s (All-head (IsTyped d sizes) s run h)) (run-typed (Some (with_monitors fresh layer e sizes before s)) run (All-tail (IsTyped d sizes) s run h))

  run-meets : (before after : Option State) → AgreeBefore fresh before after → (run : List State) → AtEachTime (MeetsBase d sizes) before run → AtEachTime (MeetsBase e sizes) after (extended fresh layer e sizes after run)
  run-meets before after past [] h = tt
  run-meets before after past (s ∷ run) h = (meets-new before after past s h.0, run-meets (Some s) (Some (with_monitors fresh layer e sizes after s)) (old-value after s) run h.1)

pub extend : RunsExtend
extend fresh layer sizes d e extends [] isrun = isrun
extend fresh layer sizes d e extends (s ∷ run) isrun = (run-typed fresh layer sizes d e extends None (s ∷ run) isrun.0, run-meets fresh layer sizes d e extends None None tt (s ∷ run) isrun.1)
