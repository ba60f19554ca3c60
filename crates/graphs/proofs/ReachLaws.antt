-- What is reached in a graph.
use Rattle.std.proofs.Common.{◌≡◌, ◌≢◌, ℕ, zero, suc, ◌+◌, ◌<◌, inl, inr, Bool, true, false, ◌||◌, List, [], ◌∷◌, length, get_or, refl, ap, arith, zero-add, suc-add}
use Rattle.std.specs.Prelude.{nat_eq}
use Rattle.std.specs.List.{list_any}
use Rattle.std.proofs.lemmas.Bool.{or_cases}
use Rattle.std.proofs.lemmas.Bool.Decides.{nat_tests}
use Rattle.graphs.specs.Graph.{next, reaches}

pub or_right : (a b : Bool) → b ≡ true → a || b ≡ true
or_right true b e = refl
or_right false b e = e

or_none : (a b : Bool) → a ≡ false → b ≡ false → a || b ≡ false
or_none a b e f = cc

-- a test that is weaker passes too
any_weaker : (p q : ℕ → Bool) (xs : List ℕ) → ((x : ℕ) → p x ≡ true → q x ≡ true) → list_any p xs ≡ true → list_any q xs ≡ true
any_weaker p q [] weaker e = e
any_weaker p q (x ∷ xs) weaker e = elim (or_cases (p x) (list_any p xs) e) [
  | inl here ↦ ap (λ b. b || list_any q xs) (weaker x here)
  | inr there ↦ or_right (q x) (list_any q xs) (any_weaker p q xs weaker there)
]

-- a test that no element passes
any_none : (p : ℕ → Bool) (xs : List ℕ) → ((i : ℕ) → i < length xs → p (get_or xs i 0) ≡ false) → list_any p xs ≡ false
any_none p [] none = refl
any_none p (x ∷ xs) none = or_none (p x) (list_any p xs) (none 0 (omega arith)) (any_none p xs (λ i h. none (suc i) (omega arith)))

nat_eq_same : (x : ℕ) → nat_eq x x ≡ true
nat_eq_same x = grind (arith, nat_tests)

pub nat_eq_is : (x y : ℕ) → nat_eq x y ≡ true → x ≡ y
nat_eq_is x y e = grind (arith, nat_tests)

pub nat_eq_other : (x y : ℕ) → x ≢ y → nat_eq x y ≡ false
nat_eq_other x y ne = grind (arith, nat_tests)

module _ (graph : List (List ℕ)) where
  pub reaches-same : (n x : ℕ) → reaches graph n x x ≡ true
  reaches-same zero x = nat_eq_same x
  reaches-same (suc n) x = ap (λ b. b || list_any (reaches graph n x) (next graph x)) (nat_eq_same x)

  -- over more edges too
  reaches-suc : (n target x : ℕ) → reaches graph n target x ≡ true → reaches graph (suc n) target x ≡ true
  reaches-suc zero target x e = ap (λ b. b || list_any (reaches graph zero target) (next graph x)) e
  reaches-suc (suc n) target x e = elim (or_cases (nat_eq x target) (list_any (reaches graph n target) (next graph x)) e) [
    | inl here ↦ ap (λ b. b || list_any (reaches graph (suc n) target) (next graph x)) here
    | inr there ↦ or_right (nat_eq x target) (list_any (reaches graph (suc n) target) (next graph x)) (any_weaker (reaches graph n target) (reaches graph (suc n) target) (next graph x) (λ y f. reaches-suc n target y f) there)
  ]

  pub reaches-at_most : (more n target x : ℕ) → reaches graph n target x ≡ true → reaches graph (more + n) target x ≡ true
  reaches-at_most zero n target x e = rw zero-add e
  reaches-at_most (suc more) n target x e = rw suc-add (reaches-suc (more + n) target x (reaches-at_most more n target x e))

  -- what is closed under edges reaches only its own
  pub reaches-closed : (P : ℕ → Type 0) (target : ℕ) → ((x : ℕ) → P x → x ≢ target) → ((x : ℕ) → P x → (i : ℕ) → i < length (next graph x) → P (get_or (next graph x) i 0)) → (n x : ℕ) → P x → reaches graph n target x ≡ false
  reaches-closed P target other closed zero x p = nat_eq_other x target (other x p)
  reaches-closed P target other closed (suc n) x p =
      or_none (nat_eq x target) (list_any (reaches graph n target) (next graph x)) (nat_eq_other x target (other x p))
      (any_none (reaches graph n target) (next graph x) (λ i h. reaches-closed P target other closed n (get_or (next graph x) i 0) (closed x p i h)))
