-- Values and places that are the same.
use Rattle.std.proofs.Common.{◌≡◌, ℕ, List, Bool, true, false, refl, sym, ap, subst, ◌∙◌, arith, nat_eq, Some, None}
use Rattle.std.specs.Str.{bytes_eq}
use Rattle.std.proofs.lemmas.Slice.Eq.{bytes_eq-Decides}
use Rattle.law_lists.proofs.Numbers.{nat_eq-is}
use Rattle.law_lists.proofs.Booleans.{left_of, right_of}
use Rattle.smv_core.specs.Values.{Value, number, constant, scalar, ordinal, same, is_in}
use Rattle.law_obligations.specs.Sets.{Has}
use Rattle.law_obligations.specs.Places.{Place, named, rest, same_place, is_among, AbsOutcome}
use Rattle.law_obligations.proofs.Members.{any-found, any-some}

pub nat_eq-itself : (n : ℕ) → nat_eq n n ≡ true
nat_eq-itself n = grind arith

pub same-itself : (v : Value) → same v v ≡ true
same-itself (number n) = nat_eq-itself n
same-itself (constant c) = (bytes_eq-Decides c c).1 refl
same-itself (scalar t n) = rw ((bytes_eq-Decides t t).1 refl) (nat_eq-itself n)
same-itself (ordinal t n) = rw ((bytes_eq-Decides t t).1 refl) (nat_eq-itself n)

pub same-is : (u v : Value) → same u v ≡ true → u ≡ v
same-is (number m) (number n) h = ap number (nat_eq-is m n h)
same-is (constant m) (constant n) h = ap constant ((bytes_eq-Decides m n).0 h)
same-is (scalar t m) (scalar u n) h =
    ap (λ t. scalar t m) ((bytes_eq-Decides t u).0 (left_of (bytes_eq t u) (nat_eq m n) h)) ∙ ap (scalar u) (nat_eq-is m n (right_of (bytes_eq t u) (nat_eq m n) h))
same-is (ordinal t m) (ordinal u n) h =
    ap (λ t. ordinal t m) ((bytes_eq-Decides t u).0 (left_of (bytes_eq t u) (nat_eq m n) h)) ∙ ap (ordinal u) (nat_eq-is m n (right_of (bytes_eq t u) (nat_eq m n) h))
same-is (number m) (constant n) h = absurd (cc)
same-is (number m) (scalar t n) h = absurd (cc)
same-is (number m) (ordinal t n) h = absurd (cc)
same-is (constant m) (number n) h = absurd (cc)
same-is (constant m) (scalar t n) h = absurd (cc)
same-is (constant m) (ordinal t n) h = absurd (cc)
same-is (scalar t m) (number n) h = absurd (cc)
same-is (scalar t m) (constant n) h = absurd (cc)
same-is (scalar t m) (ordinal u n) h = absurd (cc)
same-is (ordinal t m) (number n) h = absurd (cc)
same-is (ordinal t m) (constant n) h = absurd (cc)
same-is (ordinal t m) (scalar u n) h = absurd (cc)

pub same_place-itself : (p : Place) → same_place p p ≡ true
same_place-itself (named v) = same-itself v
same_place-itself (rest v) = same-itself v

pub same_place-is : (p q : Place) → same_place p q ≡ true → p ≡ q
same_place-is (named u) (named v) h = ap named (same-is u v h)
same_place-is (rest u) (rest v) h = ap rest (same-is u v h)
same_place-is (named u) (rest v) h = absurd (cc)
same_place-is (rest u) (named v) h = absurd (cc)

-- the same outcome, as a test
abbrev pub same_outcome : AbsOutcome → AbsOutcome → Bool
same_outcome None None = true
same_outcome (Some p) (Some q) = same_place p q
same_outcome _ _ = false

pub same_outcome-itself : (u : AbsOutcome) → same_outcome u u ≡ true
same_outcome-itself None = refl
same_outcome-itself (Some p) = same_place-itself p

pub same_outcome-is : (u v : AbsOutcome) → same_outcome u v ≡ true → u ≡ v
same_outcome-is None None h = refl
same_outcome-is (Some p) (Some q) h = ap Some (same_place-is p q h)
same_outcome-is None (Some q) h = absurd (cc)
same_outcome-is (Some p) None h = absurd (cc)

pub is_in-Has : {values : List Value} {v : Value} → Has values v → is_in values v ≡ true
is_in-Has {v = v} h = any-found (same v) h (same-itself v)

pub Has-is_in : (values : List Value) (v : Value) → is_in values v ≡ true → Has values v
Has-is_in values v e = let r = any-some (same v) values e in subst (Has values) (sym (same-is v r.0 r.2)) r.1

pub is_among-Has : {places : List Place} {p : Place} → Has places p → is_among places p ≡ true
is_among-Has {p = p} h = any-found (same_place p) h (same_place-itself p)

pub Has-is_among : (places : List Place) (p : Place) → is_among places p ≡ true → Has places p
Has-is_among places p e = let r = any-some (same_place p) places e in subst (Has places) (sym (same_place-is p r.0 r.2)) r.1
