-- The rings of the schedule are the rings, and what a search finds of them.
use Rattle.std.proofs.Common.{◌≡◌, ◌≢◌, ℕ, zero, suc, ◌+◌, ◌*◌, ◌-◌, ◌≤◌, Bool, true, false, ◌&&◌, ◌||◌, inl, inr, List, [], ◌∷◌, map, refl, sym, ◌∙◌, ap, subst, arith}
use Rattle.bdd_ops.specs.Functions.{Function}
use Rattle.smv_rings.specs.Functions.{never, conj, DependsBelow}
use Rattle.smv_rings.proofs.Tables.{some_or_never, below_reads}
use Rattle.smv_rings.specs.Lists.{Lists, State, both, at, all_of, AllBelow, IsCurrent, AllCurrent, IsLists}
use Rattle.smv_rings.specs.Paths.{Ends, InRing, Violates, IsInductive}
use Rattle.smv_rings.specs.Schedule.{after, turn, ring, first_all, looked}
use Rattle.smv_rings.specs.Schedule.Act.{Join}
use Rattle.smv_rings.proofs.Early.{and_true, true_and, or_true, true_or_left, true_or_right}
use Rattle.smv_rings.proofs.Image.{image_to, image_from, image_below, image_current, look_to, look_from, look_below, both_at}
use Rattle.smv_rings.proofs.Turns.{current_agree}

and_alike : (x y u v : Bool) → x ≡ u → y ≡ v → x && y ≡ u && v
and_alike x y u v e g = ap (λ z. z && y) e ∙ ap (λ z. u && z) g

or_alike : (x y u v : Bool) → x ≡ u → y ≡ v → x || y ≡ u || v
or_alike x y u v e g = ap (λ z. z || y) e ∙ ap (λ z. u || z) g

-- conjunctions in turn
joins_true : (fs : List Function) (p : Function) (a : ℕ → Bool) → p a ≡ true → all_of fs a ≡ true → after p (map Join fs) a ≡ true
joins_true [] p a e all = e
joins_true (f ∷ fs) p a e all = let parts = and_true (f a) (all_of fs a) all in joins_true fs (conj p f) a (true_and (p a) (f a) e parts.0) parts.1

true_joins : (fs : List Function) (p : Function) (a : ℕ → Bool) → after p (map Join fs) a ≡ true → (p a ≡ true) × (all_of fs a ≡ true)
true_joins [] p a e = (e, refl)
true_joins (f ∷ fs) p a e =
    let more = true_joins fs (conj p f) a e in
    let parts = and_true (p a) (f a) more.0 in
    (parts.0, true_and (f a) (all_of fs a) parts.1 more.1)

first_true : (fs : List Function) (a : ℕ → Bool) → all_of fs a ≡ true → first_all fs a ≡ true
first_true [] a e = refl
first_true (f ∷ fs) a e = let parts = and_true (f a) (all_of fs a) e in joins_true fs f a parts.0 parts.1

true_first : (fs : List Function) (a : ℕ → Bool) → first_all fs a ≡ true → all_of fs a ≡ true
true_first [] a e = refl
true_first (f ∷ fs) a e = let parts = true_joins fs f a e in true_and (f a) (all_of fs a) parts.0 parts.1

below_joins : (n : ℕ) (fs : List Function) (p : Function) → DependsBelow n p → AllBelow n fs → DependsBelow n (after p (map Join fs))
below_joins n [] p below all = below
below_joins n (f ∷ fs) p below all = below_joins n fs (conj p f) (λ a c same. ap (λ x. x && f a) (below a c same) ∙ ap (λ x. p c && x) (all.0 a c same)) all.1

current_joins : (fs : List Function) (p : Function) → IsCurrent p → AllCurrent fs → IsCurrent (after p (map Join fs))
current_joins [] p current all = current
current_joins (f ∷ fs) p current all = current_joins fs (conj p f) (λ b a. and_alike _ _ _ _ (current b a) (all.0 b a)) all.1

below_first : (n : ℕ) (fs : List Function) → AllBelow n fs → DependsBelow n (first_all fs)
below_first n [] all = λ a c same. refl
below_first n (f ∷ fs) all = below_joins n fs f all.0 all.1

current_first : (fs : List Function) → AllCurrent fs → IsCurrent (first_all fs)
current_first [] all = λ b a. refl
current_first (f ∷ fs) all = current_joins fs f all.0 all.1

module _ (l : Lists) (ok : IsLists l) where
  pub ring_facts : (k : ℕ) → DependsBelow (2 * l.bits) (ring l k) × IsCurrent (ring l k)
  ring_facts zero = (
    below_joins (2 * l.bits) l.before_first (first_all l.now_first) (below_first (2 * l.bits) l.now_first ok.now_first.0) ok.before_first.0,
    current_joins l.before_first (first_all l.now_first) (current_first l.now_first ok.now_first.1) ok.before_first.1,
  )
  ring_facts (suc k) =
      let facts = ring_facts k in
      let below = image_below l ok (ring l k) k facts.0 in
      let current = image_current l ok (ring l k) k facts.0 in (
        (λ a c same. ap (λ x. x || ring l k a) (below a c same) ∙ ap (λ x. after (ring l k) (turn l k) c || x) (facts.0 a c same)),
        (λ b a. or_alike _ _ _ _ (current b a) (facts.1 b a)),
      )

  pub ring_grows : (k : ℕ) (a : ℕ → Bool) → ring l k a ≡ true → ring l (suc k) a ≡ true
  ring_grows k a e = true_or_right (after (ring l k) (turn l k) a) (ring l k a) e

  -- a state is in the ring of the schedule exactly where it is in the ring
  pub ring_to : (k : ℕ) (t : State) → ring l k (at t) ≡ true → InRing l k t
  unfolding InRing Ends
  ring_to zero t e = let parts = true_joins l.before_first (first_all l.now_first) (at t) e in (0, omega arith, (true_first l.now_first (at t) parts.0, parts.1))
  ring_to (suc k) t e = elim (or_true (after (ring l k) (turn l k) (at t)) (ring l k (at t)) e) [
    | inl image ↦
        let found = image_to l ok (ring l k) k (ring_facts k).0 (ring_facts k).1 t image in
        let r = ring_to k found.0 found.1 in
        (suc r.0, omega (arith, r.1), (found.0, r.2, found.2))
    | inr old ↦ let r = ring_to k t old in (r.0, omega (arith, r.1), r.2)
  ]

  ends_ring : (j : ℕ) (t : State) → Ends l j t → ring l j (at t) ≡ true
  unfolding Ends
  ends_ring zero t ends = joins_true l.before_first (first_all l.now_first) (at t) (first_true l.now_first (at t) ends.0) ends.1
  ends_ring (suc j) t ends = true_or_left (after (ring l j) (turn l j) (at t)) (ring l j (at t)) (image_from l ok (ring l j) j (ring_facts j).0 (ring_facts j).1 ends.0 t (ends_ring j ends.0 ends.1) ends.2)

  ring_up : (j d : ℕ) (a : ℕ → Bool) → ring l j a ≡ true → ring l (d + j) a ≡ true
  ring_up j zero a e = let is : 0 + j ≡ j = omega arith in subst (λ (i : ℕ). ring l i a ≡ true) (sym is) e
  ring_up j (suc d) a e = let is : suc d + j ≡ suc (d + j) = omega arith in subst (λ (i : ℕ). ring l i a ≡ true) (sym is) (ring_grows (d + j) a (ring_up j d a e))

  pub ring_from : (k : ℕ) (t : State) → InRing l k t → ring l k (at t) ≡ true
  unfolding InRing
  ring_from k t (j, le, ends) = let is : (k - j) + j ≡ k = omega arith in subst (λ (i : ℕ). ring l i (at t) ≡ true) is (ring_up j (k - j) (at t) (ends_ring j t ends))

  -- what is looked at is not false exactly where there is a violating path of that many steps or fewer
  pub looked_to : (k : ℕ) → looked l k ≢ never → (j : ℕ) × (j ≤ k) × ((s : State) × Violates l j s)
  unfolding Violates InRing
  looked_to zero ne = elim (some_or_never (2 * l.bits) 0 (looked l 0) (below_reads (2 * l.bits) (looked l 0) (λ a c same. ap (λ x. x && l.broken_first a) (below_first (2 * l.bits) l.now_first ok.now_first.0 a c same) ∙ ap (λ x. first_all l.now_first c && x) (ok.broken_first.0 a c same)))) [
    | inl found ↦
        let s : State = λ b. found.0 (2 * b) in
        let parts = and_true (first_all l.now_first found.0) (l.broken_first found.0) found.1 in
        let now = current_agree (2 * l.bits) (first_all l.now_first) (below_first (2 * l.bits) l.now_first ok.now_first.0) (current_first l.now_first ok.now_first.1) found.0 (at s) (both_at found.0) in
        let broken = current_agree (2 * l.bits) l.broken_first ok.broken_first.0 ok.broken_first.1 found.0 (at s) (both_at found.0) in
        (0, omega arith, (s, (true_first l.now_first (at s) (sym now ∙ parts.0), sym broken ∙ parts.1)))
    | inr none ↦ absurd (ne (λ i a. none a i))
  ]
  looked_to (suc k) ne = elim (some_or_never (2 * l.bits) 0 (looked l (suc k)) (below_reads (2 * l.bits) (looked l (suc k)) (look_below l ok (ring l k) (ring_facts k).0))) [
    | inl found ↦
        let step = look_to l ok (ring l k) (ring_facts k).0 (ring_facts k).1 found.0 found.1 in
        let r = ring_to k step.0 step.2 in
        (suc r.0, omega (arith, r.1), (step.1, (step.0, r.2, step.3, step.4)))
    | inr none ↦ absurd (ne (λ i a. none a i))
  ]

  pub looked_from : (k : ℕ) → looked l k ≡ never → (s : State) → Violates l k s → ⊥
  unfolding Violates
  looked_from zero e s violates = differ (true_and (first_all l.now_first (at s)) (l.broken_first (at s)) (first_true l.now_first (at s) violates.0) violates.1) (ap (λ f. f (at s)) e)
    where
      differ : {x : Bool} → x ≡ true → x ≡ false → ⊥
      differ e f = cc
  looked_from (suc k) e s violates = differ (look_from l ok (ring l k) (ring_facts k).0 (ring_facts k).1 violates.0 s (ends_ring k violates.0 violates.1) violates.2 violates.3) (ap (λ f. f (both violates.0 s)) e)
    where
      differ : {x : Bool} → x ≡ true → x ≡ false → ⊥
      differ e f = cc

  -- an equal ring is inductive
  pub closed_inductive : (k : ℕ) → ring l (suc k) ≡ ring l k → looked l 0 ≡ never → looked l (suc k) ≡ never → IsInductive l (ring l k)
  unfolding Violates Ends InRing
  closed_inductive k closed first last = record {
    starts = λ s starts. ring_from k s (0, omega arith, starts);
    closed = λ old new e steps. ap (λ f. f (at new)) (sym closed) ∙ true_or_left (after (ring l k) (turn l k) (at new)) (ring l k (at new)) (image_from l ok (ring l k) k (ring_facts k).0 (ring_facts k).1 old new e steps);
    safe_first = λ s now broken. looked_from 0 first s (now, broken);
    safe_step = λ old new e now broken. differ (look_from l ok (ring l k) (ring_facts k).0 (ring_facts k).1 old new e now broken) (ap (λ f. f (both old new)) last);
  }
    where
      differ : {x : Bool} → x ≡ true → x ≡ false → ⊥
      differ e f = cc

-- an inductive set leaves no violating path of any length
inductive_ends : (l : Lists) (set : Function) → IsInductive l set → (k : ℕ) (s : State) → Ends l k s → set (at s) ≡ true
unfolding Ends
inductive_ends l set is zero s ends = is.starts s ends
inductive_ends l set is (suc k) s ends = is.closed ends.0 s (inductive_ends l set is k ends.0 ends.1) ends.2

pub inductive_safe : (l : Lists) (set : Function) → IsInductive l set → (k : ℕ) (s : State) → Violates l k s → ⊥
unfolding Violates
inductive_safe l set is zero s violates = is.safe_first s violates.0 violates.1
inductive_safe l set is (suc k) s violates = is.safe_step violates.0 s (inductive_ends l set is k violates.0 violates.1) violates.2 violates.3
