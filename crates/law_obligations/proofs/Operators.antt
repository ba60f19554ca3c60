-- The operators of logic and arithmetic see the same of an outcome and of its place.
use Rattle.std.proofs.Common.{◌≡◌, ℕ, zero, suc, ◌+◌, ◌-◌, List, [], ◌∷◌, map, Bool, true, false, ◌&&◌, ◌||◌, if◌then◌else◌, refl, sym, ap, ◌∙◌, nat_le, Some, None}
use Rattle.std.specs.List.{list_any, list_all}
use Rattle.smv_core.specs.Values.{number, constant, scalar, ordinal, Outcome, Truth, truth, bit, add, modulo, and_of, or_of, conjunction, disjunction}
use Rattle.smv_core.specs.Outcome.{branch}
use Rattle.law_obligations.specs.Sets.{Has, first}
use Rattle.law_obligations.specs.Places.{AbsOutcome, valued, as_place}
use Rattle.law_obligations.specs.May.{seen, shown}
use Rattle.law_obligations.specs.Pictures.{Spot, class, other, Placing, at_spot}
use Rattle.law_obligations.proofs.Members.{HaveSame, any-same, all-same}
use Rattle.law_obligations.proofs.Facts.{placed_outcome}

-- the outcome where it is a number, which is all that logic and arithmetic see
abbrev numeric : Outcome → Outcome
numeric (Some (number k)) = Some (number k)
numeric _ = None

numeric_truth : (u : Outcome) → truth (numeric u) ≡ truth u
numeric_truth None = refl
numeric_truth (Some (number k)) = refl
numeric_truth (Some (constant c)) = refl
numeric_truth (Some (scalar t k)) = refl
numeric_truth (Some (ordinal t k)) = refl

numeric_modulo : (u : Outcome) (by : ℕ) → modulo (numeric u) by ≡ modulo u by
numeric_modulo None by = refl
numeric_modulo (Some (number k)) by = refl
numeric_modulo (Some (constant c)) by = refl
numeric_modulo (Some (scalar t k)) by = refl
numeric_modulo (Some (ordinal t k)) by = refl

numeric_add : (minus : Bool) (u v : Outcome) → add minus (numeric u) (numeric v) ≡ add minus u v
numeric_add false None v = refl
numeric_add false (Some (constant c)) v = refl
numeric_add false (Some (scalar t k)) v = refl
numeric_add false (Some (ordinal t k)) v = refl
numeric_add false (Some (number k)) None = refl
numeric_add false (Some (number k)) (Some (number l)) = refl
numeric_add false (Some (number k)) (Some (constant c)) = refl
numeric_add false (Some (number k)) (Some (scalar t l)) = refl
numeric_add false (Some (number k)) (Some (ordinal t l)) = refl
numeric_add true None v = refl
numeric_add true (Some (constant c)) v = refl
numeric_add true (Some (scalar t k)) v = refl
numeric_add true (Some (ordinal t k)) v = refl
numeric_add true (Some (number k)) None = refl
numeric_add true (Some (number k)) (Some (number l)) = refl
numeric_add true (Some (number k)) (Some (constant c)) = refl
numeric_add true (Some (number k)) (Some (scalar t l)) = refl
numeric_add true (Some (number k)) (Some (ordinal t l)) = refl

numeric_valued : (spots : Placing) (u : Outcome) → numeric (valued (placed_outcome spots u)) ≡ numeric u
numeric_valued spots None = refl
numeric_valued spots (Some (number k)) = refl
numeric_valued spots (Some (constant c)) = refl
numeric_valued spots (Some (scalar t k)) = at (spots t k)
  where
    at : (s : Spot) → numeric (valued (Some (at_spot (scalar t) s))) ≡ None
    at (class c) = refl
    at (other g) = refl
numeric_valued spots (Some (ordinal t k)) = at (spots t k)
  where
    at : (s : Spot) → numeric (valued (Some (at_spot (ordinal t) s))) ≡ None
    at (class c) = refl
    at (other g) = refl

module _ (spots : Placing) where
  pub seen_placed : (u : Outcome) → seen (placed_outcome spots u) ≡ truth u
  seen_placed u = sym (numeric_truth (valued (placed_outcome spots u))) ∙ (ap truth (numeric_valued spots u) ∙ numeric_truth u)

  pub seen_each : (us : List Outcome) → map seen (map (placed_outcome spots) us) ≡ map truth us
  seen_each [] = refl
  seen_each (u ∷ us) = rw (seen_placed u, seen_each us) refl

  pub shown_placed : (t : Truth) → shown t ≡ placed_outcome spots (bit t)
  shown_placed None = refl
  shown_placed (Some true) = refl
  shown_placed (Some false) = refl

  if_number : (b : Bool) (k : ℕ) → as_place (if b then Some (number k) else None) ≡ placed_outcome spots (if b then Some (number k) else None)
  if_number true k = refl
  if_number false k = refl

  as_added : (minus : Bool) (u v : Outcome) → as_place (add minus u v) ≡ placed_outcome spots (add minus u v)
  as_added false None v = refl
  as_added false (Some (constant c)) v = refl
  as_added false (Some (scalar t k)) v = refl
  as_added false (Some (ordinal t k)) v = refl
  as_added false (Some (number k)) None = refl
  as_added false (Some (number k)) (Some (number l)) = if_number (nat_le (k + l) 511) (k + l)
  as_added false (Some (number k)) (Some (constant c)) = refl
  as_added false (Some (number k)) (Some (scalar t l)) = refl
  as_added false (Some (number k)) (Some (ordinal t l)) = refl
  as_added true None v = refl
  as_added true (Some (constant c)) v = refl
  as_added true (Some (scalar t k)) v = refl
  as_added true (Some (ordinal t k)) v = refl
  as_added true (Some (number k)) None = refl
  as_added true (Some (number k)) (Some (number l)) = if_number (nat_le l k) (k - l)
  as_added true (Some (number k)) (Some (constant c)) = refl
  as_added true (Some (number k)) (Some (scalar t l)) = refl
  as_added true (Some (number k)) (Some (ordinal t l)) = refl

  pub added_placed : (minus : Bool) (u v : Outcome) → as_place (add minus (valued (placed_outcome spots u)) (valued (placed_outcome spots v))) ≡ placed_outcome spots (add minus u v)
  added_placed minus u v =
      ap as_place (sym (numeric_add minus (valued (placed_outcome spots u)) (valued (placed_outcome spots v)))
      ∙ (ap (λ x. add minus x (numeric (valued (placed_outcome spots v)))) (numeric_valued spots u)
      ∙ (ap (add minus (numeric u)) (numeric_valued spots v) ∙ numeric_add minus u v)))
      ∙ as_added minus u v

  as_modulo : (u : Outcome) (by : ℕ) → as_place (modulo u by) ≡ placed_outcome spots (modulo u by)
  as_modulo None by = refl
  as_modulo (Some (number k)) zero = refl
  as_modulo (Some (number k)) (suc by) = refl
  as_modulo (Some (constant c)) by = refl
  as_modulo (Some (scalar t k)) by = refl
  as_modulo (Some (ordinal t k)) by = refl

  pub modulo_placed : (u : Outcome) (by : ℕ) → as_place (modulo (valued (placed_outcome spots u)) by) ≡ placed_outcome spots (modulo u by)
  modulo_placed u by =
      ap as_place (sym (numeric_modulo (valued (placed_outcome spots u)) by) ∙ (ap (λ x. modulo x by) (numeric_valued spots u) ∙ numeric_modulo u by)) ∙ as_modulo u by

-- a conjunction or a disjunction depends on its members alone
abbrev is_yes : Truth → Bool
is_yes (Some true) = true
is_yes _ = false

abbrev is_no : Truth → Bool
is_no (Some false) = true
is_no _ = false

abbrev both_tests : Bool → Bool → Truth
both_tests some_no all_yes = if some_no then Some false else (if all_yes then Some true else None)

abbrev either_test : Bool → Bool → Truth
either_test some_yes all_no = if some_yes then Some true else (if all_no then Some false else None)

and_tests : (u : Truth) (p q : Bool) → and_of u (both_tests p q) ≡ both_tests (is_no u || p) (is_yes u && q)
and_tests None true q = refl
and_tests None false true = refl
and_tests None false false = refl
and_tests (Some true) true q = refl
and_tests (Some true) false true = refl
and_tests (Some true) false false = refl
and_tests (Some false) p q = refl

or_tests : (u : Truth) (p q : Bool) → or_of u (either_test p q) ≡ either_test (is_yes u || p) (is_no u && q)
or_tests None true q = refl
or_tests None false true = refl
or_tests None false false = refl
or_tests (Some true) p q = refl
or_tests (Some false) true q = refl
or_tests (Some false) false true = refl
or_tests (Some false) false false = refl

conjunction_is : (us : List Truth) → conjunction us ≡ both_tests (list_any is_no us) (list_all is_yes us)
conjunction_is [] = refl
conjunction_is (u ∷ us) = ap (and_of u) (conjunction_is us) ∙ and_tests u (list_any is_no us) (list_all is_yes us)

disjunction_is : (us : List Truth) → disjunction us ≡ either_test (list_any is_yes us) (list_all is_no us)
disjunction_is [] = refl
disjunction_is (u ∷ us) = ap (or_of u) (disjunction_is us) ∙ or_tests u (list_any is_yes us) (list_all is_no us)

pub conjunction_same : (us vs : List Truth) → HaveSame us vs → conjunction us ≡ conjunction vs
conjunction_same us vs h = conjunction_is us ∙ (ap (λ b. both_tests b (list_all is_yes us)) (any-same is_no us vs h)
    ∙ (ap (both_tests (list_any is_no vs)) (all-same is_yes us vs h) ∙ sym (conjunction_is vs)))

pub disjunction_same : (us vs : List Truth) → HaveSame us vs → disjunction us ≡ disjunction vs
disjunction_same us vs h = disjunction_is us ∙ (ap (λ b. either_test b (list_all is_no us)) (any-same is_yes us vs h)
    ∙ (ap (either_test (list_any is_yes vs)) (all-same is_no us vs h) ∙ sym (disjunction_is vs)))

-- what a condition chooses, among outcomes and among what they may be
pub branch_may : (spots : Placing) (c : Truth) (x y : Outcome) (xs ys : List AbsOutcome) → Has xs (placed_outcome spots x) → Has ys (placed_outcome spots y) →
    Has (branch (None ∷ []) c xs ys) (placed_outcome spots (branch None c x y))
branch_may spots None x y xs ys p q = first
branch_may spots (Some true) x y xs ys p q = p
branch_may spots (Some false) x y xs ys p q = q
