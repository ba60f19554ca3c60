-- Some ring of a case is equal to the next one, within as many rings as it has states.
use Rattle.std.proofs.Common.{◌≡◌, ◌≢◌, ℕ, zero, suc, ◌+◌, ◌-◌, ◌*◌, ◌^◌, ◌<◌, ◌≤◌, ◌⊎◌, inl, inr, List, [], ◌∷◌, Bool, true, false, ◌&&◌, not, refl, sym, ap, subst, ◌∙◌, Some, true≢false, arith}
use Rattle.bdd_ops.specs.Functions.{Function}
use Rattle.smv_rings.specs.Functions.{never, DependsBelow}
use Rattle.smv_rings.specs.Lists.{Lists, State, at, IsLists}
use Rattle.smv_rings.specs.Paths.{Ends, InRing, Violates, IsInductive}
use Rattle.smv_rings.specs.Schedule.{ring, looked}
use Rattle.smv_rings.proofs.Early.{and_true, equal_or_not}
use Rattle.smv_rings.proofs.Few.{images_few}
use Rattle.smv_rings.proofs.PathLaws.{violating_of}
use Rattle.smv_rings.proofs.Rings.{ring_facts, ring_grows, ring_to, ring_from, looked_to, closed_inductive}
use Rattle.smv_rings.proofs.Tables.{some_or_never, below_reads}
use Rattle.law_obligations.specs.Sets.{Has, first, later}
use Rattle.law_obligations.specs.May.{AbsState}
use Rattle.law_obligations.specs.Readings.{PosedCase, IsCase, are_values, reading}
use Rattle.law_obligations.specs.CasePaths.{HasNone, last_of, IsInRing, IsViolatingPath}
use Rattle.law_obligations.proofs.ReadBack.{state_is_read}
use Rattle.law_reports.specs.CaseLists.{case_lists}
use Rattle.law_reports.specs.ListLaws.{readings}
use Rattle.law_reports.specs.Verdicts.{IsSpent}
use Rattle.law_reports.proofs.Below.{are_lists}
use Rattle.law_reports.proofs.Paths.{paths_read, rings_to, rings_from}

module _ (l : Lists) (ok : IsLists l) where
  -- ---- some ring closes

  abbrev new_in : ℕ → Function
  new_in m a = ring l (suc m) a && not (ring l m a)

  new_below : (m : ℕ) → DependsBelow (2 * l.bits) (new_in m)
  new_below m a d same = ap (λ (x : Bool). x && not (ring l m a)) ((ring_facts l ok (suc m)).0 a d same) ∙ ap (λ (x : Bool). ring l (suc m) d && not x) ((ring_facts l ok m).0 a d same)

  closes_or_grows : (m : ℕ) → (ring l (suc m) ≡ ring l m) ⊎ (ring l (suc m) ≢ ring l m)
  closes_or_grows m = elim (some_or_never (2 * l.bits) 0 (new_in m) (below_reads (2 * l.bits) (new_in m) (new_below m))) [
    | inl found ↦
        let parts = and_true (ring l (suc m) found.0) (not (ring l m found.0)) found.1 in
        inr (λ same. clash (ring l m found.0) parts.1 (sym (ap (λ (f : Function). f found.0) same) ∙ parts.0))
    | inr none ↦ inl (λ i a. alike (ring l (suc m) a) (ring l m a) (ring_grows l ok m a) (none a) i)
  ]
    where
      clash : (x : Bool) → not x ≡ true → x ≡ true → ⊥
      clash true e g = cc
      clash false e g = cc

      alike : (x y : Bool) → (y ≡ true → x ≡ true) → x && not y ≡ false → x ≡ y
      alike true true grows e = refl
      alike true false grows e = absurd (cc)
      alike false true grows e = grows refl
      alike false false grows e = refl

  abbrev Closes : Type 0
  Closes = (k : ℕ) × (ring l (suc k) ≡ ring l k)

  closes_within : (n : ℕ) → Closes ⊎ ((k : ℕ) → k < n → ring l (suc k) ≢ ring l k)
  closes_within zero = inr (λ k lt. absurd (omega arith))
  closes_within (suc n) = elim (closes_within n) [
    | inl found ↦ inl found
    | inr grow ↦ elim (closes_or_grows n) [
      | inl closed ↦ inl (n, closed)
      | inr ne ↦ inr (λ k lt. elim (equal_or_not k n) [
        | inl e ↦ subst (λ (m : ℕ). ring l (suc m) ≢ ring l m) (sym e) ne
        | inr other ↦ grow k (omega arith)
      ])
    ]
  ]

  some_closes : Closes
  some_closes = elim (closes_within (2 ^ l.bits)) [
    | inl found ↦ found
    | inr grow ↦ absurd (let lt = images_few l ok (2 ^ l.bits) grow in omega (arith, lt))
  ]

  -- a ring that is equal to the next one has every state that a path ends in
  pub stays : (k : ℕ) → ring l (suc k) ≡ ring l k → (j : ℕ) (s : State) → Ends l j s → InRing l k s
  unfolding Ends InRing
  stays k closed zero s ends = (0, omega arith, ends)
  stays k closed (suc j) s ends =
      let r = stays k closed j ends.0 ends.1 in
      ring_to l ok k s (ap (λ (f : Function). f (at s)) (sym closed) ∙ ring_from l ok (suc k) s (suc r.0, omega (arith, r.1), (ends.0, r.2, ends.2)))

  -- ---- where nothing violates, that ring is inductive

  never_looked : ((j : ℕ) (s : State) → Violates l j s → ⊥) → (k : ℕ) → looked l k ≡ never
  never_looked none k = λ i a. at_each a (looked l k a) refl i
    where
      at_each : (a : ℕ → Bool) (x : Bool) → looked l k a ≡ x → looked l k a ≡ false
      at_each a false e = e
      at_each a true e =
          let r = looked_to l ok k (λ same. true≢false (sym e ∙ ap (λ (f : Function). f a) same)) in
          absurd (none r.0 r.2.0 r.2.1)

  pub some_inductive : ((j : ℕ) (s : State) → Violates l j s → ⊥) → (k : ℕ) × IsInductive l (ring l k)
  some_inductive none =
      let r = some_closes in
      (r.0, closed_inductive l ok r.0 r.1 (never_looked none 0) (never_looked none (suc r.0)))

module _ (c : PosedCase) (is : IsCase c) where
  pub none_violates : HasNone c.problem → (j : ℕ) (s : State) → Violates (case_lists c) j s → ⊥
  none_violates none j s v =
      let path = violating_of (case_lists c) j s v in
      let read = paths_read c is j path.0 path.1 in
      true≢false (sym read.is_violating ∙ none (readings c path.0 j) read.are_states)

  has_last : (path : List AbsState) (a : AbsState) → last_of path ≡ Some a → Has path a
  has_last [] a e = absurd (cc (e))
  has_last (x ∷ []) a e = subst (λ (y : AbsState). Has (x ∷ []) y) (inner e) first
    where
      inner : {X : Type 0} {y z : X} → Some y ≡ Some z → y ≡ z
      inner e = cc
  has_last (x ∷ y ∷ path) a e = later (has_last (y ∷ path) a e)

  -- steps that are spent are fewer than the states of the bits
  pub spent_few : (steps : ℕ) → IsSpent c steps → steps < 2 ^ (case_lists c).bits
  unfolding InRing
  spent_few steps spent = images_few (case_lists c) (are_lists c) steps (λ k lt closed. none_new k lt closed)
    where
      none_new : (k : ℕ) → k < steps → ring (case_lists c) (suc k) ≡ ring (case_lists c) k → ⊥
      none_new k lt closed =
          let found = state_is_read c is spent.state (spent.is_reached.are_states spent.state (has_last spent.is_reached.path spent.state spent.is_reached.ends)) in
          let reached = rings_from c is steps found.0 found.1 (subst (IsInRing c.problem steps) (sym found.2) spent.is_reached) in
          let old = stays (case_lists c) (are_lists c) k closed reached.0 found.0 reached.2 in
          spent.is_new (subst (IsInRing c.problem (steps - 1)) found.2 (rings_to c is (steps - 1) found.0 (old.0, omega (arith, old.1), old.2)).1)
