-- The uses that are now hold no cycle: each of them falls in rank.
use Rattle.std.proofs.Common.{◌≡◌, ℕ, zero, suc, ◌+◌, ◌*◌, ◌<◌, ◌≤◌, Bool, true, false, not, ◌&&◌, if◌then◌else◌, refl, ap, subst, ◌⊎◌, inl, inr, arith, nat_eq, nat_lt}
use Rattle.std.proofs.Math.Nat.{mul-le-mul_left}
use Rattle.std.proofs.lemmas.Bool.{or_cases, not-true}
use Rattle.law_lists.proofs.Numbers.{nat_lt-is}
use Rattle.law_lists.proofs.Booleans.{either_left, either_right, and_both, left_of, right_of}
use Rattle.law_obligations.specs.Uses.{reaches_through, is_now, count_below, rank_of}

nat_eq_same : (n : ℕ) → nat_eq n n ≡ true
nat_eq_same n = grind arith

module _ (edge : ℕ → ℕ → Bool) where
  itself : (k u : ℕ) → reaches_through edge k u u ≡ true
  itself zero u = either_left (edge u u) (nat_eq_same u)
  itself (suc k) u = either_left _ (itself k u)

  by_edge : (k u v : ℕ) → edge u v ≡ true → reaches_through edge k u v ≡ true
  by_edge zero u v e = either_right (nat_eq u v) e
  by_edge (suc k) u v e = either_left _ (by_edge k u v e)

  to_last : (k u : ℕ) → reaches_through edge (suc k) u k ≡ true → reaches_through edge k u k ≡ true
  to_last k u e = elim (or_cases (reaches_through edge k u k) _ e) [ inl p ↦ p | inr p ↦ left_of _ _ p ]

  from_last : (k v : ℕ) → reaches_through edge (suc k) k v ≡ true → reaches_through edge k k v ≡ true
  from_last k v e = elim (or_cases (reaches_through edge k k v) _ e) [ inl p ↦ p | inr p ↦ right_of (reaches_through edge k k k) _ p ]

  joined : (k u m v : ℕ) → m < k → reaches_through edge k u m ≡ true → reaches_through edge k m v ≡ true → reaches_through edge k u v ≡ true
  joined zero u m v l p q = absurd (omega arith)
  joined (suc k) u m v l p q = elim (last_or_below m k l) [
    | inl e ↦ either_right (reaches_through edge k u v)
        (and_both (to_last k u (subst (λ z. reaches_through edge (suc k) u z ≡ true) e p)) (from_last k v (subst (λ z. reaches_through edge (suc k) z v ≡ true) e q)))
    | inr b ↦ elim (or_cases (reaches_through edge k u m) _ p) [
      | inl p1 ↦ elim (or_cases (reaches_through edge k m v) _ q) [
        | inl q1 ↦ either_left _ (joined k u m v b p1 q1)
        | inr q2 ↦ either_right (reaches_through edge k u v) (and_both (joined k u m k b p1 (left_of _ _ q2)) (right_of (reaches_through edge k m k) _ q2))
      ]
      | inr p2 ↦ elim (or_cases (reaches_through edge k m v) _ q) [
        | inl q1 ↦ either_right (reaches_through edge k u v) (and_both (left_of _ _ p2) (joined k k m v b (right_of (reaches_through edge k u k) _ p2) q1))
        | inr q2 ↦ either_right (reaches_through edge k u v) (and_both (left_of _ _ p2) (right_of (reaches_through edge k m k) _ q2))
      ]
    ]
  ]
    where
      last_or_below : (m k : ℕ) → m < suc k → (m ≡ k) ⊎ (m < k)
      last_or_below m k l = grind arith

step : (a b : Bool) → (b ≡ true → a ≡ true) → (if b then 1 else 0) ≤ (if a then 1 else 0)
step true true f = omega arith
step true false f = omega arith
step false false f = omega arith
step false true f = absurd (let e = f refl in cc)

at_most : (p q : ℕ → Bool) (n : ℕ) → ((k : ℕ) → k < n → q k ≡ true → p k ≡ true) → count_below q n ≤ count_below p n
at_most p q zero h = omega arith
at_most p q (suc n) h =
    let more = at_most p q n (λ k l. h k (omega arith)) in
    let here = step (p n) (q n) (h n (omega arith)) in
    omega (arith, more, here)

fewer : (p q : ℕ → Bool) (n j : ℕ) → ((k : ℕ) → k < n → q k ≡ true → p k ≡ true) → j < n → p j ≡ true → q j ≡ false → count_below q n < count_below p n
fewer p q zero j h l pj qj = absurd (omega arith)
fewer p q (suc n) j h l pj qj = elim (last_or_below j n l) [
  | inl e ↦ let most = at_most p q n (λ k m. h k (omega arith)) in
      let a : ◌≡◌ {A = ℕ} (if p n then 1 else 0) 1 = ap (λ b. if b then 1 else 0) (subst (λ z. p z ≡ true) e pj) in
      let b : ◌≡◌ {A = ℕ} (if q n then 1 else 0) 0 = ap (λ b. if b then 1 else 0) (subst (λ z. q z ≡ false) e qj) in
      omega (arith, most, a, b)
  | inr b ↦ let less = fewer p q n j (λ k m. h k (omega arith)) b pj qj in
      let here = step (p n) (q n) (h n (omega arith)) in
      omega (arith, less, here)
]
  where
    last_or_below : (m k : ℕ) → m < suc k → (m ≡ k) ⊎ (m < k)
    last_or_below m k l = grind arith

lower_group : (a b n u v : ℕ) → a < b → v < n → a * n + v < b * n + u
lower_group a b n u v l m = let h = mul-le-mul_left n l in omega (arith, h)

same_group : (a b n u v : ℕ) → a ≤ b → v < u → a * n + v < b * n + u
same_group a b n u v l m = let h = mul-le-mul_left n l in omega (arith, h)

pub falls : (edge : ℕ → ℕ → Bool) (n u v : ℕ) → u < n → v < n → is_now edge n u v ≡ true → rank_of edge n v < rank_of edge n u
falls edge n u v lu lv e =
    let used = left_of (edge u v) _ e in
    let goes_on : (k : ℕ) → k < n → reaches_through edge n v k ≡ true → reaches_through edge n u k ≡ true = λ k l p. joined edge n u v k lv (by_edge edge n u v used) p in
    elim (or_cases (not (reaches_through edge n v u)) _ (right_of (edge u v) _ e)) [
      | inl p ↦ lower_group _ _ n u v (fewer (reaches_through edge n u) (reaches_through edge n v) n u goes_on lu (itself edge n u) (not-true _ p)) lv
      | inr p ↦ same_group _ _ n u v (at_most (reaches_through edge n u) (reaches_through edge n v) n goes_on) (less v u p)
    ]
  where
    less : (v u : ℕ) → nat_lt v u ≡ true → v < u
    less v u e = grind arith

pub falls_in_order : (edge : ℕ → ℕ → Bool) (n u v : ℕ) → (nat_lt u n && (nat_lt v n && is_now edge n u v)) ≡ true → rank_of edge n v < rank_of edge n u
falls_in_order edge n u v e =
    let rest = right_of (nat_lt u n) (nat_lt v n && is_now edge n u v) e in
    falls edge n u v (nat_lt-is u n (left_of (nat_lt u n) (nat_lt v n && is_now edge n u v) e)) (nat_lt-is v n (left_of (nat_lt v n) (is_now edge n u v) rest)) (right_of (nat_lt v n) (is_now edge n u v) rest)
