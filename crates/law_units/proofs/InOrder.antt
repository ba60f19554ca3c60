-- The units of a design stand at rising places.
use Rattle.std.proofs.Common.{◌≡◌, ◌≤◌, ℕ, suc, List, [], ◌∷◌, Bool, true, false, cond, refl, sym, subst, inl, inr, arith, nat_lt}
use Rattle.smv_core.specs.declared.flat.Unit.{Unit}
use Rattle.law_obligations.specs.Sets.{Has, first, later}
use Rattle.law_obligations.specs.Units.{put, in_order}
use Rattle.law_obligations.proofs.Members.{Has-uncons}
use Rattle.law_units.proofs.Rising.{Rises, Differ}

abbrev pub Placed : Type 0
Placed = ℕ × Unit

abbrev pub place_of : Placed → ℕ
place_of x = x.0

-- ---- the same members

from-put : (x : Placed) (units : List Placed) (z : Placed) → Has (put x units) z → Has (x ∷ units) z
from-put x [] z h = h
from-put x (y ∷ units) z h = by_test (nat_lt x.0 y.0) h (from-put x units z)
  where
    behind : Has (x ∷ units) z → Has (x ∷ y ∷ units) z
    behind h = elim (Has-uncons h) [
      | inl i ↦ subst (Has (x ∷ y ∷ units)) (sym i) first
      | inr k ↦ later (later k)
    ]

    by_test : (b : Bool) → Has (cond b (x ∷ y ∷ units) (y ∷ put x units)) z → (Has (put x units) z → Has (x ∷ units) z) → Has (x ∷ y ∷ units) z
    by_test true h rest = h
    by_test false h rest = elim (Has-uncons h) [
      | inl i ↦ subst (Has (x ∷ y ∷ units)) (sym i) (later first)
      | inr k ↦ behind (rest k)
    ]

pub from-in_order : (units : List Placed) (z : Placed) → Has (in_order units) z → Has units z
from-in_order [] z h = h
from-in_order (x ∷ units) z h = elim (Has-uncons (from-put x (in_order units) z h)) [
  | inl i ↦ subst (Has (x ∷ units)) (sym i) first
  | inr k ↦ later (from-in_order units z k)
]

put-here : (x : Placed) (units : List Placed) → Has (put x units) x
put-here x [] = first
put-here x (y ∷ units) = by_test (nat_lt x.0 y.0) (put-here x units)
  where
    by_test : (b : Bool) → Has (put x units) x → Has (cond b (x ∷ y ∷ units) (y ∷ put x units)) x
    by_test true h = first
    by_test false h = later h

put-later : (x : Placed) (units : List Placed) (z : Placed) → Has units z → Has (put x units) z
put-later x [] z h = elim h [ ]
put-later x (y ∷ units) z h = by_test (nat_lt x.0 y.0) h (put-later x units z)
  where
    by_test : (b : Bool) → Has (y ∷ units) z → (Has units z → Has (put x units) z) → Has (cond b (x ∷ y ∷ units) (y ∷ put x units)) z
    by_test true h rest = later h
    by_test false h rest = elim (Has-uncons h) [
      | inl i ↦ subst (Has (y ∷ put x units)) (sym i) first
      | inr k ↦ later (rest k)
    ]

pub in_order-Has : (units : List Placed) (x : Placed) → Has units x → Has (in_order units) x
in_order-Has [] x h = elim h [ ]
in_order-Has (y ∷ units) x h = elim (Has-uncons h) [
  | inl i ↦ subst (Has (put y (in_order units))) (sym i) (put-here y (in_order units))
  | inr k ↦ put-later y (in_order units) x (in_order-Has units x k)
]

-- ---- at rising places

put-rises : (low : ℕ) (x : Placed) (units : List Placed) → low ≤ x.0 → Rises place_of low units → ((y : Placed) → Has units y → x.0 ≡ y.0 → ⊥) → Rises place_of low (put x units)
put-rises low x [] l h apart = (l, tt)
put-rises low x (y ∷ units) l h apart = by_test (nat_lt x.0 y.0) (λ e. below x.0 y.0 e) (λ e. put-rises (suc y.0) x units (above x.0 y.0 e (apart y first)) h.1 (λ z k. apart z (later k)))
  where
    below : (a b : ℕ) → nat_lt a b ≡ true → suc a ≤ b
    below a b e = grind arith

    above : (a b : ℕ) → nat_lt a b ≡ false → (a ≡ b → ⊥) → suc b ≤ a
    above a b e apart = grind arith

    by_test : (b : Bool) → (b ≡ true → suc x.0 ≤ y.0) → (b ≡ false → Rises place_of (suc y.0) (put x units)) → Rises place_of low (cond b (x ∷ y ∷ units) (y ∷ put x units))
    by_test true less rest = (l, (less refl, h.1))
    by_test false less rest = (h.0, rest refl)

pub in_order-rises : (units : List Placed) → Differ place_of units → Rises place_of 0 (in_order units)
in_order-rises [] h = tt
in_order-rises (x ∷ units) h = put-rises 0 x (in_order units) (omega arith) (in_order-rises units h.1) (λ y k e. h.0 y (from-in_order units y k) e)
