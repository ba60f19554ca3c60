-- Violating paths as lists of states, and what they say of the rings.
use Rattle.std.proofs.Common.{◌≡◌, ℕ, zero, suc, ◌+◌, ◌-◌, ◌<◌, ◌≤◌, Bool, true, false, cond, nat_lt, inl, inr, refl, sym, ◌∙◌, ap, subst, arith}
use Rattle.std.proofs.lemmas.Bool.Decides.{nat_tests}
use Rattle.std.proofs.lemmas.Bool.{cases_lt}
use Rattle.smv_rings.specs.Lists.{Lists, State, both, at, all_of, IsLists}
use Rattle.smv_rings.specs.Paths.{Steps, Starts, Ends, InRing, Violates, IsViolating}
use Rattle.smv_rings.specs.Schedule.{after, turn, ring}
use Rattle.smv_rings.proofs.Early.{true_or_left}
use Rattle.smv_rings.proofs.Image.{image_from}
use Rattle.smv_rings.proofs.Rings.{ring_facts, ring_to, ring_from}

-- a path of k steps at every time of which everything holds
record Holds (l : Lists) (k : ℕ) (path : ℕ → State) : Type 0 where
  starts : Starts l (path 0)
  steps : (i : ℕ) → suc i ≤ k → Steps l (path i) (path (suc i))

-- the path up to time k, and s behind it
then_at : ℕ → (ℕ → State) → State → ℕ → State
then_at k path s i = cond (nat_lt k i) s (path i)

then_old : (k : ℕ) (path : ℕ → State) (s : State) (i : ℕ) → i ≤ k → then_at k path s i ≡ path i
unfolding then_at
then_old k path s i le = by_test (nat_lt k i) refl
  where
    by_test : (t : Bool) → nat_lt k i ≡ t → cond t s (path i) ≡ path i
    by_test true e = absurd (let lt : k < i = grind (arith, nat_tests) in omega arith)
    by_test false e = refl

then_new : (k : ℕ) (path : ℕ → State) (s : State) (i : ℕ) → k < i → then_at k path s i ≡ s
unfolding then_at
then_new k path s i lt = by_test (nat_lt k i) refl
  where
    by_test : (t : Bool) → nat_lt k i ≡ t → cond t s (path i) ≡ s
    by_test true e = refl
    by_test false e = absurd (let le : i ≤ k = grind (arith, nat_tests) in omega arith)

-- one more step
holds_then : (l : Lists) (k : ℕ) (path : ℕ → State) (s : State) → Holds l k path → Steps l (path k) s → Holds l (suc k) (then_at k path s)
holds_then l k path s holds step = record {
  starts = subst (Starts l) (sym (then_old k path s 0 (omega arith))) holds.starts;
  steps = λ i le. elim (cases_lt i k) [
    | inl lt ↦
        subst (λ (q : State). Steps l q (then_at k path s (suc i))) (sym (then_old k path s i (omega arith)))
        (subst (λ (q : State). Steps l (path i) q) (sym (then_old k path s (suc i) (omega arith))) (holds.steps i (omega arith)))
    | inr past ↦
        let is : i ≡ k = omega arith in
        subst (λ (q : State). Steps l q (then_at k path s (suc i))) (sym (then_old k path s i (omega arith) ∙ ap path is))
        (subst (λ (q : State). Steps l (path k) q) (sym (then_new k path s (suc i) (omega arith))) step)
  ];
}

path_of : (l : Lists) (k : ℕ) (s : State) → Ends l k s → (path : ℕ → State) × Holds l k path × (path k ≡ s)
unfolding Ends
path_of l zero s ends = ((λ _. s), record { starts = ends; steps = λ i le. absurd (omega arith) }, refl)
path_of l (suc k) s (r, ends, step) =
    let old = path_of l k r ends in
    (then_at k old.0 s, holds_then l k old.0 s old.1 (subst (λ (q : State). Steps l q s) (sym old.2) step), then_new k old.0 s (suc k) (omega arith))

-- a violating path of states that ends in s
pub violating_of : (l : Lists) (k : ℕ) (s : State) → Violates l k s → (path : ℕ → State) × IsViolating l k path × (path k ≡ s)
unfolding Violates
violating_of l zero s violates = (
  (λ _. s),
  record {
    starts = violates.0;
    starts_before = λ le. absurd (omega arith);
    steps = λ i le. absurd (omega arith);
    steps_before = λ i le. absurd (omega arith);
    broken_first = λ e. violates.1;
    broken_step = λ i e. absurd (omega arith);
  },
  refl,
)
violating_of l (suc k) s (r, ends, now, broken) =
    let old = path_of l k r ends in
    let path : ℕ → State = then_at k old.0 s in
    let old_at : (i : ℕ) → i ≤ k → path i ≡ old.0 i = λ i le. then_old k old.0 s i le in
    let new_at : path (suc k) ≡ s = then_new k old.0 s (suc k) (omega arith) in
    let last : path k ≡ r = old_at k (omega arith) ∙ old.2 in (
      path,
      record {
        starts = ap (λ (q : State). all_of l.now_first (at q)) (old_at 0 (omega arith)) ∙ old.1.starts.0;
        starts_before = λ le. ap (λ (q : State). all_of l.before_first (at q)) (old_at 0 (omega arith)) ∙ old.1.starts.1;
        steps = λ i le. elim (cases_lt i k) [
          | inl lt ↦ ap (λ (q : State). all_of l.now_step (both q (path (suc i)))) (old_at i (omega arith)) ∙ ap (λ (q : State). all_of l.now_step (both (old.0 i) q)) (old_at (suc i) (omega arith)) ∙ (old.1.steps i (omega arith)).0
          | inr past ↦ let is : i ≡ k = omega arith in subst (λ (j : ℕ). all_of l.now_step (both (path j) (path (suc j))) ≡ true) (sym is)
              (ap (λ (q : State). all_of l.now_step (both q (path (suc k)))) last ∙ ap (λ (q : State). all_of l.now_step (both r q)) new_at ∙ now)
        ];
        steps_before = λ i le. ap (λ (q : State). all_of l.before_step (both q (path (suc i)))) (old_at i (omega arith)) ∙ ap (λ (q : State). all_of l.before_step (both (old.0 i) q)) (old_at (suc i) (omega arith)) ∙ (old.1.steps i (omega arith)).1;
        broken_first = λ e. absurd (omega arith);
        broken_step = λ i e. let is : i ≡ k = omega arith in subst (λ (j : ℕ). l.broken_step (both (path j) (path (suc j))) ≡ true) (sym is)
            (ap (λ (q : State). l.broken_step (both q (path (suc k)))) last ∙ ap (λ (q : State). l.broken_step (both r q)) new_at ∙ broken);
      },
      new_at,
    )

-- the states of a violating path end paths at every time of which everything holds
ends_path : (l : Lists) (k : ℕ) (path : ℕ → State) → IsViolating l k path → (i : ℕ) → suc i ≤ k → Ends l i (path i)
unfolding Ends
ends_path l k path is zero le = (is.starts, is.starts_before le)
ends_path l k path is (suc i) le = (path i, ends_path l k path is i (omega arith), (is.steps i (omega arith), is.steps_before i le))

pub violates_of : (l : Lists) (k : ℕ) (path : ℕ → State) → IsViolating l k path → Violates l k (path k)
unfolding Violates
violates_of l zero path is = (is.starts, is.broken_first refl)
violates_of l (suc k) path is = (path k, ends_path l (suc k) path is k (omega arith), is.steps k (omega arith), is.broken_step k refl)

-- a way to one of its states is a way to those behind it
ends_on : (l : Lists) (k : ℕ) (path : ℕ → State) → IsViolating l k path → (i j : ℕ) → Ends l j (path i) → (d m n : ℕ) → d + j ≡ m → d + i ≡ n → suc n ≤ k → Ends l m (path n)
unfolding Ends
ends_on l k path is i j ends zero m n em en le =
    let same_m : j ≡ m = omega arith in
    let same_n : i ≡ n = omega arith in
    subst (λ (x : ℕ). Ends l x (path n)) same_m (subst (λ (x : ℕ). Ends l j (path x)) same_n ends)
ends_on l k path is i j ends (suc d) m n em en le =
    let same_m : suc (d + j) ≡ m = omega arith in
    let same_n : suc (d + i) ≡ n = omega arith in
    subst (λ (x : ℕ). Ends l x (path n)) same_m (subst (λ (x : ℕ). Ends l (suc (d + j)) (path x)) same_n
    (path (d + i), ends_on l k path is i j ends d (d + j) (d + i) refl refl (omega arith), (is.steps (d + i) (omega arith), is.steps_before (d + i) (omega arith))))

differs : {x : Bool} → x ≡ true → x ≡ false → ⊥
differs e f = cc

module _ (l : Lists) (ok : IsLists l) where
  pub least_passes : (k : ℕ) (path : ℕ → State) → IsViolating l k path → ((j : ℕ) → j < k → (s : State) → Violates l j s → ⊥)
      → (i : ℕ) → i < k → (ring l i (at (path i)) ≡ true) × ((j : ℕ) → j < i → ring l j (at (path i)) ≡ false)
  unfolding InRing Violates
  least_passes k path is least i lt = (
    ring_from l ok i (path i) (i, omega arith, ends_path l k path is i (omega arith)),
    λ j less. by_value j less (ring l j (at (path i))) refl,
  )
    where
      shorter : (j : ℕ) → j < i → InRing l j (path i) → ⊥
      shorter j less (m, le, ends) =
          let d : ℕ = k - suc i in
          let e : suc (d + i) ≡ k = omega arith in
          least (suc (d + m)) (omega arith) (path (suc (d + i)))
          (path (d + i), ends_on l k path is i m ends d (d + m) (d + i) refl refl (omega arith), is.steps (d + i) (omega arith), is.broken_step (d + i) e)

      by_value : (j : ℕ) → j < i → (x : Bool) → ring l j (at (path i)) ≡ x → ring l j (at (path i)) ≡ false
      by_value j less true e = absurd (shorter j less (ring_to l ok j (path i) e))
      by_value j less false e = e

  -- behind an equal ring each state is in it
  ends_closed : (k : ℕ) → ring l (suc k) ≡ ring l k → (j : ℕ) (s : State) → Ends l j s → ring l k (at s) ≡ true
  unfolding Ends InRing
  ends_closed k closed zero s ends = ring_from l ok k s (0, omega arith, ends)
  ends_closed k closed (suc j) s (r, ends, steps) =
      ap (λ f. f (at s)) (sym closed)
      ∙ true_or_left (after (ring l k) (turn l k) (at s)) (ring l k (at s)) (image_from l ok (ring l k) k (ring_facts l ok k).0 (ring_facts l ok k).1 r s (ends_closed k closed j r ends) steps)

  pub equal_ends : (k : ℕ) → ring l (suc k) ≡ ring l k → ((j : ℕ) → j ≤ suc k → (s : State) → Violates l j s → ⊥) → (j : ℕ) (s : State) → Violates l j s → ⊥
  unfolding Violates InRing
  equal_ends k closed none zero s violates = none 0 (omega arith) s violates
  equal_ends k closed none (suc j) s (r, ends, now, broken) =
      let early = ring_to l ok k r (ends_closed k closed j r ends) in
      none (suc early.0) (omega (arith, early.1)) s (r, early.2, now, broken)
