-- Bounds and what is reckoned with them hold of numbers.
use Rattle.std.proofs.Common.{◌≡◌, ◌∙◌, ◌+◌, ◌-◌, ◌<◌, ◌≤◌, ℕ, zero, suc, ◌%◌, Bool, true, false, cond, Option, Some, None, refl, sym, ap, subst, arith, nat_eq}
use Rattle.std.specs.Prelude.{not, nat_le, nat_lt, min, max, option_map}
use Rattle.std.proofs.Math.Nat.{max-le, le-max_left, le-max_right, min-le_left, min-le_right, le-min, mod-eq_of_lt, mod-lt}
use Rattle.law_lists.proofs.Numbers.{nat_eq-is, nat_eq-turned, nat_le-is, nat_lt-is, nat_lt-not}
use Rattle.smv_core.specs.Values.{Outcome, Truth, number, constant, scalar, ordinal, add, bit, compare, modulo, not_of, truth}
use Rattle.smv_core.specs.Outcome.{branch}
use Rattle.smv_core.specs.declared.tree.Op.{Op}
use Rattle.smv_core.specs.declared.tree.Op.TheVariants.{Equal, Differ, Less, AtMost, Greater, AtLeast}
use Rattle.smv_look_bounds.specs.declared.numbers.Bounds.{Bounds}
use Rattle.smv_look_bounds.specs.Narrowing.{beside, denied, from, turned, upto, without}
use Rattle.smv_look_bounds.specs.Bounds.{a_bit, add_bounds, added, one_of, remainder}
use Rattle.law_bounds.specs.BoundsHold.{IsWithin}

-- bounds hold of an outcome that is a number; of any other nothing is said
abbrev pub Holds : Bounds → Outcome → Type 0
Holds w None = Unit {0}
Holds w (Some (number k)) = IsWithin w k
Holds w (Some (constant name)) = Unit {0}
Holds w (Some (scalar t k)) = Unit {0}
Holds w (Some (ordinal t k)) = Unit {0}

-- the same where there are bounds
abbrev pub MayHold : Option Bounds → Outcome → Type 0
MayHold None u = Unit {0}
MayHold (Some w) u = Holds w u

-- ---- tests

some-true : (p : Bool) → Some p ≡ Some true → p ≡ true
some-true true e = refl
some-true false e = absurd (cc)

not-some-true : (p : Bool) → not_of (Some p) ≡ Some true → p ≡ false
not-some-true false e = refl
not-some-true true e = absurd (cc)

pub not-false : (v : Truth) → not_of v ≡ Some false → v ≡ Some true
not-false (Some true) e = refl
not-false (Some false) e = absurd (cc)
not-false None e = absurd (cc)

not-true : (v : Truth) → not_of v ≡ Some true → v ≡ Some false
not-true (Some false) e = refl
not-true (Some true) e = absurd (cc)
not-true None e = absurd (cc)

pub not-back : (holds : Bool) (v : Truth) → not_of v ≡ Some holds → v ≡ Some (not holds)
not-back true v e = not-true v e
not-back false v e = not-false v e

pub truth-bit : (v : Truth) → truth (bit v) ≡ v
truth-bit None = refl
truth-bit (Some false) = refl
truth-bit (Some true) = refl

-- a comparison that does not hold is one that does
pub as-it-holds : (holds : Bool) (op : Op) (u v : Outcome) → compare op u v ≡ Some holds → compare (cond holds op (denied op)) u v ≡ Some true
as-it-holds true op u v e = e
as-it-holds false Equal u v e = ap not_of e
as-it-holds false Differ u v e = not-false (compare Equal u v) e
as-it-holds false Less u v e = ap not_of e
as-it-holds false AtMost u v e = not-false (compare Less v u) e
as-it-holds false Greater u v e = ap not_of e
as-it-holds false AtLeast u v e = not-false (compare Less u v) e

-- ---- comparisons

pub from-holds : (j k : ℕ) (w : Bounds) → j ≤ k → IsWithin w k → IsWithin (from j w) k
from-holds j k w le h = by (nat_le (max j w.low) w.high)
  where
    by : (p : Bool) → IsWithin (cond p (record { low = max j w.low; high = w.high }) w) k
    by true = (max-le le h.0, h.1)
    by false = h

pub upto-holds : (j k : ℕ) (w : Bounds) → k ≤ j → IsWithin w k → IsWithin (upto j w) k
upto-holds j k w le h = by (nat_le w.low (min j w.high))
  where
    by : (p : Bool) → IsWithin (cond p (record { low = w.low; high = min j w.high }) w) k
    by true = (h.0, le-min le h.1)
    by false = h

-- what is not the lower end is above it, and what is not the upper end is below it
past-low : (j k low : ℕ) → nat_eq k j ≡ false → nat_eq j low ≡ true → low ≤ k → j + 1 ≤ k
past-low j k low ne e le = grind arith

past-high : (j k high : ℕ) → nat_eq k j ≡ false → nat_eq j high ≡ true → k ≤ high → k ≤ j - 1
past-high j k high ne e le = grind arith

without-holds : (j k : ℕ) (w : Bounds) → nat_eq k j ≡ false → IsWithin w k → IsWithin (without j w) k
without-holds j k w ne h = by (nat_eq j w.low) (nat_eq j w.high) refl refl
  where
    by : (p q : Bool) → nat_eq j w.low ≡ p → nat_eq j w.high ≡ q → IsWithin (cond p (from (j + 1) w) (cond q (upto (j - 1) w) w)) k
    by true q e f = from-holds (j + 1) k w (past-low j k w.low ne e h.0) h
    by false true e f = upto-holds (j - 1) k w (past-high j k w.high ne f h.1) h
    by false false e f = h

less-up : (k j : ℕ) → k < j → k ≤ j - 1
less-up k j lt = omega arith

less-from : (k j : ℕ) → j < k → j + 1 ≤ k
less-from k j lt = omega arith

same-up : (k j : ℕ) → k ≡ j → k ≤ j
same-up k j e = omega arith

same-from : (k j : ℕ) → k ≡ j → j ≤ k
same-from k j e = omega arith

-- what a comparison with a number to the right leaves
pub beside-holds : (op : Op) (j k : ℕ) (w : Bounds) → compare op (Some (number k)) (Some (number j)) ≡ Some true → IsWithin w k → IsWithin (beside op j w) k
beside-holds Equal j k w e h =
    let is : k ≡ j = nat_eq-is k j (some-true (nat_eq k j) e) in
    from-holds j k (upto j w) (same-from k j is) (upto-holds j k w (same-up k j is) h)
beside-holds Differ j k w e h = without-holds j k w (not-some-true (nat_eq k j) e) h
beside-holds Less j k w e h = upto-holds (j - 1) k w (less-up k j (nat_lt-is k j (some-true (nat_lt k j) e))) h
beside-holds AtMost j k w e h = upto-holds j k w (nat_lt-not j k (not-some-true (nat_lt j k) e)) h
beside-holds Greater j k w e h = from-holds (j + 1) k w (less-from k j (nat_lt-is j k (some-true (nat_lt j k) e))) h
beside-holds AtLeast j k w e h = from-holds j k w (nat_lt-not k j (not-some-true (nat_lt k j) e)) h

-- the same comparison of numbers from the other side
pub turned-holds : (op : Op) (j k : ℕ) → compare op (Some (number j)) (Some (number k)) ≡ Some true → compare (turned op) (Some (number k)) (Some (number j)) ≡ Some true
turned-holds Equal j k e = ap (λ (p : Bool). Some p) (nat_eq-turned k j) ∙ e
turned-holds Differ j k e = ap (λ (p : Bool). not_of (Some p)) (nat_eq-turned k j) ∙ e
turned-holds Less j k e = e
turned-holds AtMost j k e = e
turned-holds Greater j k e = e
turned-holds AtLeast j k e = e

-- ---- sums, remainders, choices, logic

pub added-holds : (minus : Bool) (o p : Option Bounds) (u v : Outcome) → MayHold o u → MayHold p v → MayHold (added minus o p) (add minus u v)
added-holds minus None p u v g h = tt
added-holds minus (Some w) None u v g h = tt
added-holds false (Some w) (Some x) (Some (number m)) (Some (number k)) g h = by (nat_le (m + k) 511) refl
  where
    low : m + k ≤ 511 → min (w.low + x.low) 511 ≤ m + k
    low le =
        let a : w.low ≤ m = g.0 in
        let b : x.low ≤ k = h.0 in
        let c : min (w.low + x.low) 511 ≤ w.low + x.low = min-le_left (w.low + x.low) 511 in
        omega arith

    high : m + k ≤ 511 → m + k ≤ min (w.high + x.high) 511
    high le =
        let a : m ≤ w.high = g.1 in
        let b : k ≤ x.high = h.1 in
        let c : m + k ≤ w.high + x.high = omega arith in
        le-min c le

    by : (p : Bool) → nat_le (m + k) 511 ≡ p → Holds (add_bounds false w x) (cond p (Some (number (m + k))) None)
    by true e = (low (nat_le-is (m + k) 511 e), high (nat_le-is (m + k) 511 e))
    by false e = tt
added-holds true (Some w) (Some x) (Some (number m)) (Some (number k)) g h = by (nat_le k m) refl
  where
    low : k ≤ m → w.low - x.high ≤ m - k
    low le =
        let a : w.low ≤ m = g.0 in
        let b : k ≤ x.high = h.1 in
        omega arith

    high : k ≤ m → m - k ≤ w.high - x.low
    high le =
        let a : m ≤ w.high = g.1 in
        let b : x.low ≤ k = h.0 in
        omega arith

    by : (p : Bool) → nat_le k m ≡ p → Holds (add_bounds true w x) (cond p (Some (number (m - k))) None)
    by true e = (low (nat_le-is k m e), high (nat_le-is k m e))
    by false e = tt
added-holds false (Some w) (Some x) _ _ g h = tt
added-holds true (Some w) (Some x) _ _ g h = tt

pub remainder-holds : (by : ℕ) (o : Option Bounds) (u : Outcome) → MayHold o u → MayHold (option_map (remainder by) o) (modulo u by)
remainder-holds by None u h = tt
remainder-holds (suc n) (Some w) (Some (number m)) h = at (nat_lt w.high (suc n)) refl
  where
    same : w.high < suc n → m % suc n ≡ m
    same lt = let a : m ≤ w.high = h.1 in mod-eq_of_lt (omega arith)

    at : (p : Bool) → nat_lt w.high (suc n) ≡ p → IsWithin (cond p w (record { low = 0; high = suc n - 1 })) (m % suc n)
    at true e = subst (λ (k : ℕ). IsWithin w k) (sym (same (nat_lt-is w.high (suc n) e))) h
    at false e = let a : m % suc n < suc n = mod-lt m (omega arith) in (omega arith, omega arith)
remainder-holds zero (Some w) (Some (number m)) h = tt
remainder-holds by (Some w) _ h = tt

pub chosen-holds : (c : Truth) (o p : Option Bounds) (u v : Outcome) → MayHold o u → MayHold p v → MayHold (one_of o p) (branch None c u v)
chosen-holds c None p u v g h = tt
chosen-holds c (Some w) None u v g h = tt
chosen-holds None (Some w) (Some x) u v g h = tt
chosen-holds (Some true) (Some w) (Some x) u v g h = left u g
  where
    left : (u : Outcome) → Holds w u → Holds (record { low = min w.low x.low; high = max w.high x.high }) u
    left (Some (number k)) g =
        let a : w.low ≤ k = g.0 in
        let b : k ≤ w.high = g.1 in
        let c : min w.low x.low ≤ w.low = min-le_left w.low x.low in
        let d : w.high ≤ max w.high x.high = le-max_left w.high x.high in
        (omega arith, omega arith)
    left _ g = tt
chosen-holds (Some false) (Some w) (Some x) u v g h = right v h
  where
    right : (v : Outcome) → Holds x v → Holds (record { low = min w.low x.low; high = max w.high x.high }) v
    right (Some (number k)) g =
        let a : x.low ≤ k = g.0 in
        let b : k ≤ x.high = g.1 in
        let c : min w.low x.low ≤ x.low = min-le_right w.low x.low in
        let d : x.high ≤ max w.high x.high = le-max_right w.high x.high in
        (omega arith, omega arith)
    right _ g = tt

pub bit-holds : (v : Truth) → Holds a_bit (bit v)
bit-holds None = tt
bit-holds (Some false) = (omega arith, omega arith)
bit-holds (Some true) = (omega arith, omega arith)
