-- The class of a value under a placing, and what a case is allowed for one set type.
use Rattle.std.proofs.Common.{◌≡◌, ℕ, suc, ◌+◌, ◌<◌, ◌≤◌, List, [], ◌∷◌, ◌++◌, map, length, Bool, true, false, not, refl, sym, ap, subst, ◌∙◌, inl, inr, arith, nat_eq, nat_lt}
use Rattle.law_lists.proofs.Lists.{map-map}
use Rattle.law_lists.proofs.Booleans.{and_both}
use Rattle.smv_core.specs.Values.{Name, Value, number, constant, scalar, ordinal, Sizes, values_of, numbers_from}
use Rattle.smv_core.specs.declared.flat.Class.{Class}
use Rattle.smv_core.specs.declared.flat.Class.TheVariants.{Number, Named, Rest}
use Rattle.smv_core.specs.declared.abstract_type.Rest.{Rest as Beside}
use Rattle.smv_core.specs.declared.abstract_type.Rest.TheVariants as beside
use Rattle.smv_core.specs.declared.abstract_type.AbsType.{AbsType}
use Rattle.law_obligations.specs.Sets.{Has, first, later}
use Rattle.law_obligations.specs.Places.{Place, named, rest, rests_beside}
use Rattle.law_obligations.specs.Pictures.{Spot, class, other, Placing, placed}
use Rattle.law_obligations.specs.Cases.{Treatment, whole, reduced, ordered, Parameter, used, named_among, are_named, abstract_type, is_of, is_orderly, those_of, listed_classes, unlisted_classes, type_in, is_allowed}
use Rattle.law_obligations.specs.Covers.{value_at, place_at}
use Rattle.law_obligations.proofs.Members.{Has-left, Has-right, Has-cases, Has-map, Has-from_map, any-found, all-holds}
use Rattle.law_obligations.proofs.Same.{nat_eq-itself}
use Rattle.law_obligations.proofs.Spots.{Has-numbers, numbers-Has}
use Rattle.law_obligations.proofs.CoverScalarsets.{named_set}

-- a value by its number alone
abbrev pub number_of : Value → ℕ
number_of (number k) = k
number_of (constant name) = 0
number_of (scalar t k) = k
number_of (ordinal t k) = k

-- the class of a spot
abbrev pub class_at : Spot → Class
class_at (class c) = Named c
class_at (other g) = Rest g

-- the class of a place
abbrev pub class_of : Place → Class
class_of (named (number k)) = Number k
class_of (named v) = Named (number_of v)
class_of (rest v) = Rest (number_of v)

-- the values of a set type of a name
pub value_by_number : (sizes : Sizes) (is_ordered : Bool) (t : Name) (v : Value) → Has (values_of sizes (named_set is_ordered t)) v → (number_of v < sizes t) × (v ≡ value_at (named_set is_ordered t) (number_of v))
value_by_number sizes true t v h = let r = Has-from_map (ordinal t) (numbers_from 0 (sizes t)) h in let b = numbers-Has 0 (sizes t) r.0 r.1 in
    (subst (λ u. number_of u < sizes t) (sym r.2) (let l = b.1 in omega (arith, l)), subst (λ u. u ≡ ordinal t (number_of u)) (sym r.2) refl)
value_by_number sizes false t v h = let r = Has-from_map (scalar t) (numbers_from 0 (sizes t)) h in let b = numbers-Has 0 (sizes t) r.0 r.1 in
    (subst (λ u. number_of u < sizes t) (sym r.2) (let l = b.1 in omega (arith, l)), subst (λ u. u ≡ scalar t (number_of u)) (sym r.2) refl)

-- their classes
pub class_of-value : (is_ordered : Bool) (t : Name) (spots : Placing) (k : ℕ) (s : Spot) → spots t k ≡ s → class_of (placed spots (value_at (named_set is_ordered t) k)) ≡ class_at s
class_of-value true t spots k (class c) e = rw e refl
class_of-value true t spots k (other g) e = rw e refl
class_of-value false t spots k (class c) e = rw e refl
class_of-value false t spots k (other g) e = rw e refl

-- and where they are
pub placed-value : (is_ordered : Bool) (t : Name) (spots : Placing) (k : ℕ) (s : Spot) → spots t k ≡ s → placed spots (value_at (named_set is_ordered t) k) ≡ place_at (named_set is_ordered t) (class_at s)
placed-value true t spots k (class c) e = rw e refl
placed-value true t spots k (other g) e = rw e refl
placed-value false t spots k (class c) e = rw e refl
placed-value false t spots k (other g) e = rw e refl

-- a spot of an abstract type
pub spot_is_of : (t : AbsType) (s : Spot) → Has (map class (numbers_from 0 t.named) ++ map other (rests_beside t.rest t.named)) s → is_of t (class_at s) ≡ true
spot_is_of t s h = elim (Has-cases (map class (numbers_from 0 t.named)) (map other (rests_beside t.rest t.named)) h) [
  | inl l ↦ let r = Has-from_map class (numbers_from 0 t.named) l in
      subst (λ z. is_of t (class_at z) ≡ true) (sym r.2) (less r.0 t.named (let b = numbers-Has 0 t.named r.0 r.1 in let q = b.1 in omega (arith, q)))
  | inr o ↦ let r = Has-from_map other (rests_beside t.rest t.named) o in
      subst (λ z. is_of t (class_at z) ≡ true) (sym r.2) (any-found (nat_eq r.0) r.1 (nat_eq-itself r.0))
]
  where
    less : (c m : ℕ) → c < m → nat_lt c m ≡ true
    less c m l = grind arith

-- is a candidate
pub named_candidate : (count c : ℕ) → c < count → Has (map Named (numbers_from 0 count) ++ map Rest (numbers_from 0 (count + 1))) (Named c)
named_candidate count c l = Has-left (map Rest (numbers_from 0 (count + 1))) (Has-map Named (Has-numbers 0 count c (omega arith) (omega (arith, l))))

rest_candidate : (count g : ℕ) → g ≤ count → Has (map Named (numbers_from 0 count) ++ map Rest (numbers_from 0 (count + 1))) (Rest g)
rest_candidate count g l = Has-right (map Named (numbers_from 0 count)) (Has-map Rest (Has-numbers 0 (count + 1) g (omega arith) (omega (arith, l))))

few_rests : (r : Beside) (m g : ℕ) → Has (rests_beside r m) g → g ≤ m
few_rests beside.None m g h = elim h [ ]
few_rests beside.One m _ first = omega arith
few_rests beside.One m g (later h) = elim h [ ]
few_rests beside.Gaps m g h = let r = numbers-Has 0 (m + 1) g h in let l = r.1 in omega (arith, l)

pub spot_candidate : (t : AbsType) (count : ℕ) → t.named ≤ count → (s : Spot) → Has (map class (numbers_from 0 t.named) ++ map other (rests_beside t.rest t.named)) s →
    Has (map Named (numbers_from 0 count) ++ map Rest (numbers_from 0 (count + 1))) (class_at s)
spot_candidate t count few s h = elim (Has-cases (map class (numbers_from 0 t.named)) (map other (rests_beside t.rest t.named)) h) [
  | inl l ↦ let r = Has-from_map class (numbers_from 0 t.named) l in
      subst (λ z. Has (map Named (numbers_from 0 count) ++ map Rest (numbers_from 0 (count + 1))) (class_at z)) (sym r.2)
      (named_candidate count r.0 (let b = numbers-Has 0 t.named r.0 r.1 in let q = b.1 in omega (arith, q, few)))
  | inr o ↦ let r = Has-from_map other (rests_beside t.rest t.named) o in
      subst (λ z. Has (map Named (numbers_from 0 count) ++ map Rest (numbers_from 0 (count + 1))) (class_at z)) (sym r.2)
      (rest_candidate count r.0 (let q = few_rests t.rest t.named r.0 r.1 in omega (arith, q, few)))
]

-- named classes alone
named_among-named : (cs : List ℕ) → named_among (map Named cs) ≡ cs
named_among-named [] = refl
named_among-named (c ∷ cs) = ap (λ z. c ∷ z) (named_among-named cs)

are_named-named : (cs : List ℕ) → are_named (map Named cs) ≡ true
are_named-named cs = subst (λ z. nat_eq (length z) (length (map Named cs)) ≡ true) (sym (named_among-named cs)) (equal (length cs) (length (map Named cs)) (as_long cs))
  where
    as_long : (cs : List ℕ) → length cs ≡ length (map Named cs)
    as_long [] = refl
    as_long (c ∷ cs) = ap suc (as_long cs)

    equal : (m n : ℕ) → m ≡ n → nat_eq m n ≡ true
    equal m n e = grind arith

-- in a scalarset that is not reduced each parameter counts as listed
abbrev pub counts : Treatment → Bool → Bool
counts (whole n) listed = true
counts _ listed = listed

listed-counts : (t : Treatment) (set : ℕ) (params : List Parameter) (classes : List Class) → listed_classes t set params classes ≡ those_of (counts t) set params classes
listed-counts (whole n) set params classes = refl
listed-counts (reduced known) set params classes = refl
listed-counts ordered set params classes = refl

unlisted-has : (t : Treatment) (set : ℕ) (params : List Parameter) (classes : List Class) (q : Class) → Has (unlisted_classes t set params classes) q → (test : Bool → Bool) × Has (those_of test set params classes) q
unlisted-has (whole n) set params classes q h = elim h [ ]
unlisted-has (reduced known) set params classes q h = (λ listed. not listed, h)
unlisted-has ordered set params classes q h = (λ listed. not listed, h)

-- the abstract type of a set type where its listed parameters have these classes
pub type_in-is : (t : Treatment) (set : ℕ) (params : List Parameter) (classes : List Class) (cs : List ℕ) → those_of (counts t) set params classes ≡ map Named cs → type_in t set params classes ≡ abstract_type t (used cs)
type_in-is t set params classes cs e = ap (λ z. abstract_type t (used (named_among z))) (listed-counts t set params classes ∙ e) ∙ ap (λ z. abstract_type t (used z)) (named_among-named cs)

-- classes that are allowed
pub allowed : (t : Treatment) (set : ℕ) (params : List Parameter) (classes : List Class) (cs : List ℕ) → those_of (counts t) set params classes ≡ map Named cs → is_orderly t cs ≡ true →
    ((test : Bool → Bool) (q : Class) → Has (those_of test set params classes) q → is_of (abstract_type t (used cs)) q ≡ true) → is_allowed t set params classes ≡ true
allowed t set params classes cs e orderly each =
    let listed : listed_classes t set params classes ≡ map Named cs = listed-counts t set params classes ∙ e in
    and_both
    (subst (λ z. are_named z ≡ true) (sym listed) (are_named-named cs))
    (and_both
    (subst (λ z. is_orderly t (named_among z) ≡ true) (sym listed) (subst (λ z. is_orderly t z ≡ true) (sym (named_among-named cs)) orderly))
    (all-holds (is_of (type_in t set params classes)) (unlisted_classes t set params classes)
    (λ q h. let u = unlisted-has t set params classes q h in subst (λ a. is_of a q ≡ true) (sym (type_in-is t set params classes cs e)) (each u.0 q u.1))))

-- the classes of values that lie at these
pub named_classes : (spot : ℕ → Spot) (vs : List Value) (cs : List ℕ) → map spot (map number_of vs) ≡ map class cs → map (λ v. class_at (spot (number_of v))) vs ≡ map Named cs
named_classes spot vs cs e =
    sym (ap (map class_at) (map-map spot number_of vs) ∙ map-map class_at (λ v. spot (number_of v)) vs) ∙ (ap (map class_at) e ∙ map-map class_at class cs)
