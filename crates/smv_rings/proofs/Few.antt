-- A case with m bits closes within 2 ^ m images.
use Rattle.std.proofs.Common.{◌≡◌, ◌≢◌, ℕ, zero, suc, ◌+◌, ◌*◌, ◌/◌, ◌^◌, ◌<◌, ◌≤◌, Bool, true, false, cond, not, ◌&&◌, inl, inr, refl, sym, ◌∙◌, ap, arith}
use Rattle.bdd_store.specs.Graph.{with_at}
use Rattle.bdd_store.proofs.Functions.{with_own, half_reads, Reads}
use Rattle.bdd_ops.specs.Functions.{Function}
use Rattle.smv_rings.specs.Functions.{DependsBelow}
use Rattle.smv_rings.proofs.Tables.{some_or_never, below_reads}
use Rattle.smv_rings.specs.Lists.{Lists, State, at, IsLists}
use Rattle.smv_rings.specs.Schedule.{after, turn, ring}
use Rattle.smv_rings.proofs.Early.{and_true, or_true}
use Rattle.smv_rings.proofs.Turns.{current_agree}
use Rattle.smv_rings.proofs.Image.{image_to, both_at}
use Rattle.smv_rings.proofs.Rings.{ring_facts, ring_grows}

-- how many states of b bits from bit k on a set has
size : ℕ → ℕ → (State → Bool) → ℕ
size zero k g = cond (g (λ _. false)) 1 0
size (suc b) k g = size b (suc k) (λ s. g (with_at s k false)) + size b (suc k) (λ s. g (with_at s k true))

bit_le : (x y : Bool) → (x ≡ true → y ≡ true) → cond x 1 0 ≤ cond y 1 0
bit_le false false imp = omega arith
bit_le false true imp = omega arith
bit_le true true imp = omega arith
bit_le true false imp = let e : false ≡ true = imp refl in cc

size_most : (b k : ℕ) (g : State → Bool) → size b k g ≤ 2 ^ b
unfolding size
size_most zero k g = by_bit (g (λ _. false))
  where
    by_bit : (x : Bool) → cond x 1 0 ≤ 1
    by_bit true = omega arith
    by_bit false = omega arith
size_most (suc b) k g = grind (arith, size_most b (suc k) (λ s. g (with_at s k false)), size_most b (suc k) (λ s. g (with_at s k true)))

size_le : (b k : ℕ) (g h : State → Bool) → ((s : State) → g s ≡ true → h s ≡ true) → size b k g ≤ size b k h
unfolding size
size_le zero k g h imp = bit_le (g (λ _. false)) (h (λ _. false)) (imp (λ _. false))
size_le (suc b) k g h imp = omega (arith, size_le b (suc k) (λ s. g (with_at s k false)) (λ s. h (with_at s k false)) (λ s. imp (with_at s k false)), size_le b (suc k) (λ s. g (with_at s k true)) (λ s. h (with_at s k true)) (λ s. imp (with_at s k true)))

bit_lt : (x y : Bool) → x ≡ false → y ≡ true → cond x 1 0 < cond y 1 0
bit_lt true y e g = cc
bit_lt false true e g = omega arith
bit_lt false false e g = cc

size_lt : (b k : ℕ) (g h : State → Bool) → Reads b k g → Reads b k h → ((s : State) → g s ≡ true → h s ≡ true) → (s : State) → g s ≡ false → h s ≡ true → size b k g < size b k h
unfolding size
size_lt zero k g h reads_g reads_h imp s out has =
    bit_lt (g (λ _. false)) (h (λ _. false)) (reads_g (λ _. false) s (λ v le lt. absurd (omega arith)) ∙ out) (reads_h (λ _. false) s (λ v le lt. absurd (omega arith)) ∙ has)
size_lt (suc b) k g h reads_g reads_h imp s out has = by_bit (s k) refl
    (λ x e. size_lt b (suc k) (λ r. g (with_at r k x)) (λ r. h (with_at r k x)) (half_reads b k g x reads_g) (half_reads b k h x reads_h) (λ r. imp (with_at r k x)) s
    (sym (reads_g s (with_at s k x) (λ v le lt. with_own s k v ∙ ap (λ y. with_at s k y v) e)) ∙ out)
    (sym (reads_h s (with_at s k x) (λ v le lt. with_own s k v ∙ ap (λ y. with_at s k y v) e)) ∙ has))
    (λ x. size_le b (suc k) (λ r. g (with_at r k x)) (λ r. h (with_at r k x)) (λ r. imp (with_at r k x)))
  where
    by_bit : (x : Bool) → s k ≡ x
        → ((x : Bool) → s k ≡ x → size b (suc k) (λ r. g (with_at r k x)) < size b (suc k) (λ r. h (with_at r k x)))
        → ((x : Bool) → size b (suc k) (λ r. g (with_at r k x)) ≤ size b (suc k) (λ r. h (with_at r k x)))
        → size b (suc k) (λ r. g (with_at r k false)) + size b (suc k) (λ r. g (with_at r k true)) < size b (suc k) (λ r. h (with_at r k false)) + size b (suc k) (λ r. h (with_at r k true))
    by_bit false e lt le = omega (arith, lt false e, le true)
    by_bit true e lt le = omega (arith, lt true e, le false)

at_reads : (m : ℕ) (f : Function) → DependsBelow (2 * m) f → Reads m 0 (λ s. f (at s))
at_reads m f below a c same = below (at a) (at c) (λ v lt. let e : a (v / 2) ≡ c (v / 2) = same (v / 2) (omega arith) (omega arith) in by_half v e)
  where
    by_half : (v : ℕ) → a (v / 2) ≡ c (v / 2) → at a v ≡ at c v
    by_half v e = cond_same _ e e
      where
        cond_same : (x : Bool) {p q r u : Bool} → p ≡ q → r ≡ u → cond x p r ≡ cond x q u
        cond_same true e g = e
        cond_same false e g = g

pow_some : (m : ℕ) → 0 < 2 ^ m
pow_some zero = grind arith
pow_some (suc m) = grind (arith, pow_some m)

module _ (l : Lists) (ok : IsLists l) where
  states : ℕ → ℕ
  states k = size l.bits 0 (λ s. ring l k (at s))

  new_state : (k : ℕ) → ring l (suc k) ≢ ring l k → (s : State) × (ring l k (at s) ≡ false) × (ring l (suc k) (at s) ≡ true)
  new_state k ne = elim (some_or_never (2 * l.bits) 0 (λ a. ring l (suc k) a && not (ring l k a)) (below_reads (2 * l.bits) (λ a. ring l (suc k) a && not (ring l k a)) (λ a c same. both_same _ _ _ _ ((ring_facts l ok (suc k)).0 a c same) ((ring_facts l ok k).0 a c same)))) [
    | inl found ↦
        let s : State = λ b. found.0 (2 * b) in
        let parts = and_true (ring l (suc k) found.0) (not (ring l k found.0)) found.1 in
        let old = current_agree (2 * l.bits) (ring l k) (ring_facts l ok k).0 (ring_facts l ok k).1 found.0 (at s) (both_at found.0) in
        let new = current_agree (2 * l.bits) (ring l (suc k)) (ring_facts l ok (suc k)).0 (ring_facts l ok (suc k)).1 found.0 (at s) (both_at found.0) in
        (s, sym old ∙ not_true _ parts.1, sym new ∙ parts.0)
    | inr none ↦ absurd (ne (λ i a. same_value _ _ (none a) (ring_grows l ok k a) i))
  ]
    where
      both_same : (x y u v : Bool) → x ≡ u → y ≡ v → x && not y ≡ u && not v
      both_same x y u v e g = ap (λ z. z && not y) e ∙ ap (λ z. u && not z) g

      not_true : (x : Bool) → not x ≡ true → x ≡ false
      not_true true e = cc
      not_true false e = refl

      same_value : (x y : Bool) → x && not y ≡ false → (y ≡ true → x ≡ true) → x ≡ y
      same_value true true e imp = refl
      same_value true false e imp = cc
      same_value false false e imp = refl
      same_value false true e imp = imp refl

  grows : (k : ℕ) → ring l (suc k) ≢ ring l k → states k < states (suc k)
  unfolding states
  grows k ne = let new = new_state k ne in
      size_lt l.bits 0 (λ s. ring l k (at s)) (λ s. ring l (suc k) (at s)) (at_reads l.bits (ring l k) (ring_facts l ok k).0) (at_reads l.bits (ring l (suc k)) (ring_facts l ok (suc k)).0)
      (λ s. ring_grows l ok k (at s)) new.0 new.1 new.2

  -- a ring that grows has a state
  some_state : (k : ℕ) → ring l (suc k) ≢ ring l k → 0 < states k
  unfolding states
  some_state k ne =
      let new = new_state k ne in
      elim (or_true (after (ring l k) (turn l k) (at new.0)) (ring l k (at new.0)) new.2) [
        | inl image ↦
            let found = image_to l ok (ring l k) k (ring_facts l ok k).0 (ring_facts l ok k).1 new.0 image in
            let lt = size_lt l.bits 0 (λ s. false) (λ s. ring l k (at s)) (λ a c same. refl) (at_reads l.bits (ring l k) (ring_facts l ok k).0) (λ s e. clash e) found.0 refl found.1 in omega arith
        | inr old ↦ absurd (both_values old new.1)
      ]
    where
      clash : {x : Bool} → false ≡ true → x ≡ true
      clash e = cc

      both_values : {x : Bool} → x ≡ true → x ≡ false → ⊥
      both_values e g = cc

  many : (n : ℕ) → ((k : ℕ) → k < suc n → ring l (suc k) ≢ ring l k) → suc (suc n) ≤ states (suc n)
  many zero ne = omega (arith, grows 0 (ne 0 (omega arith)), some_state 0 (ne 0 (omega arith)))
  many (suc n) ne = omega (arith, many n (λ k lt. ne k (omega arith)), grows (suc n) (ne (suc n) (omega arith)))

  -- as many images as leave each ring unequal are fewer than there are states
  pub images_few : (n : ℕ) → ((k : ℕ) → k < n → ring l (suc k) ≢ ring l k) → n < 2 ^ l.bits
  unfolding states
  images_few zero ne = pow_some l.bits
  images_few (suc n) ne = omega (arith, many n ne, size_most l.bits 0 (λ s. ring l (suc n) (at s)))
