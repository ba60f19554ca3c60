-- Laws of orders.
use Rattle.std.proofs.Common.{◌≡◌, ℕ, zero, suc, ◌+◌, ◌<◌, List, [], ◌∷◌, length, false, cond, refl, ap, subst, ◌∙◌, Option, Some, None, arith, nat_eq}
use Rattle.std.specs.Prelude.{get_or, option_map}
use Rattle.std.specs.List.{IsDistinct, AllByRecursion}
use Rattle.std.proofs.lemmas.List.Sorted.{length_permutation, Contains-permutation, IsPermutation-refl, IsPermutation-sym}
use Rattle.std.proofs.lemmas.Map.Keys.{IsDistinct-IsPermutation}
use Rattle.smv_core.specs.Values.{numbers_from}
use Rattle.law_obligations.specs.Sets.{Has, first, later}
use Rattle.law_obligations.specs.May.{AbsState}
use Rattle.law_obligations.specs.Obligations.{is_met, obligation}
use Rattle.law_obligations.specs.Outlines.{place_of}
use Rattle.law_obligations.specs.Readings.{PosedCase, state_bits}
use Rattle.law_obligations.proofs.CoverLists.{length-numbers}
use Rattle.law_obligations.proofs.ReadBack.{slot_within}
use Rattle.law_obligations.proofs.Same.{nat_eq-itself}
use Rattle.law_obligations.proofs.Spots.{numbers-Has}
use Rattle.law_arrangements.specs.Arrangements.{AgreeBeside, AgreeBefore, AreUnread, IsArrangement}
use Rattle.law_arrangements.specs.Orders.{IsOrder, arranged}

pub number_at : (low n k d : ℕ) → k < n → get_or (numbers_from low n) k d ≡ low + k
number_at low zero k d lt = absurd (omega arith)
number_at low (suc n) zero d lt = omega arith
number_at low (suc n) (suc k) d lt = let more = number_at (low + 1) n k d (omega arith) in omega arith

has_contained : (xs : List ℕ) (x k : ℕ) → k < length xs → get_or xs k x ≡ x → Has xs x
has_contained [] x k lt e = absurd (omega arith)
has_contained (y ∷ xs) x zero lt e = subst (Has (y ∷ xs)) e first
has_contained (y ∷ xs) x (suc k) lt e = later (has_contained xs x k (omega arith) e)

at_any : (xs : List ℕ) (k d e : ℕ) → k < length xs → get_or xs k d ≡ get_or xs k e
at_any [] k d e lt = absurd (omega arith)
at_any (x ∷ xs) zero d e lt = refl
at_any (x ∷ xs) (suc k) d e lt = at_any xs k d e (omega arith)

each_at : (P : ℕ → Type 0) (xs : List ℕ) → AllByRecursion P xs → (k : ℕ) → k < length xs → P (get_or xs k 0)
each_at P [] each k lt = absurd (omega arith)
each_at P (x ∷ xs) each zero lt = each.0
each_at P (x ∷ xs) each (suc k) lt = each_at P xs each.1 k (omega arith)

apart : (x y : ℕ) → x < y → nat_eq x y ≡ false
apart x y lt = grind arith

flips : (x y : ℕ) → nat_eq x y ≡ nat_eq y x
flips x y = grind arith

numbers_apart : (x low n : ℕ) → x < low → AllByRecursion (λ y. nat_eq x y ≡ false) (numbers_from low n)
numbers_apart x low zero lt = tt
numbers_apart x low (suc n) lt = (apart x low lt, numbers_apart x (low + 1) n (omega arith))

numbers_distinct : (low n : ℕ) → IsDistinct nat_eq (numbers_from low n)
unfolding IsDistinct
numbers_distinct low zero = tt
numbers_distinct low (suc n) = (numbers_apart low (low + 1) n (omega arith), numbers_distinct (low + 1) n)

own_place : (xs : List ℕ) → IsDistinct nat_eq xs → (k : ℕ) → k < length xs → place_of (nat_eq (get_or xs k 0)) xs ≡ Some k
unfolding IsDistinct
own_place [] distinct k lt = absurd (omega arith)
own_place (x ∷ xs) distinct zero lt = ap (λ b. cond b (Some 0) (option_map (λ k. suc k) (place_of (nat_eq x) xs))) (nat_eq-itself x)
own_place (x ∷ xs) distinct (suc k) lt =
    ap (λ b. cond b (Some 0) (option_map (λ k. suc k) (place_of (nat_eq (get_or xs k 0)) xs))) (flips (get_or xs k 0) x ∙ each_at (λ y. nat_eq x y ≡ false) xs distinct.0 k (omega arith))
    ∙ ap (option_map (λ k. suc k)) (own_place xs distinct.1 k (omega arith))

module _ (bits : ℕ) (order : List ℕ) (is : IsOrder bits order) where
  pub order_long : length order ≡ bits
  order_long = length_permutation (numbers_from 0 bits) order is ∙ length-numbers 0 bits

  pub order_has : (b : ℕ) → b < bits → Has order b
  order_has b lt =
      let among = Contains-permutation (numbers_from 0 bits) order b is (b, (let long = length-numbers 0 bits in omega (arith, long, lt)), (let at = number_at 0 bits b b lt in omega (arith, at))) in
      has_contained order b among.0 among.1 among.2

  within : (k : ℕ) → k < length order → get_or order k 0 < bits
  within k lt =
      let b : ℕ = get_or order k 0 in
      let among = Contains-permutation order (numbers_from 0 bits) b (IsPermutation-sym (numbers_from 0 bits) order is) (k, lt, at_any order k b 0 lt) in
      let below = (numbers-Has 0 bits b (has_contained (numbers_from 0 bits) b among.0 among.1 among.2)).1 in
      omega (arith, below)

  pub places_own : (k : ℕ) → k < bits → (get_or order k 0 < bits) × (place_of (nat_eq (get_or order k 0)) order ≡ Some k)
  places_own k lt =
      let long = order_long in
      let there : k < length order = omega (arith, long, lt) in
      (within k there, own_place order (IsDistinct-IsPermutation nat_eq flips (numbers_from 0 bits) order is (numbers_distinct 0 bits)) k there)

pub declared_order : (bits : ℕ) → IsOrder bits (numbers_from 0 bits)
declared_order bits = IsPermutation-refl (numbers_from 0 bits)

-- nothing depends on no elements
module _ (c : PosedCase) where
  one_state : (a b : AbsState) → AgreeBeside [] a b → a ≡ b
  one_state a b agree = λ i family ps. agree family ps refl i

  one_before : (old other : Option AbsState) → AgreeBefore [] old other → old ≡ other
  one_before None None agree = refl
  one_before (Some a) (Some b) agree = ap Some (one_state a b agree)
  one_before None (Some b) agree = elim agree [ ]
  one_before (Some a) None agree = elim agree [ ]

  unread_nothing : AreUnread c []
  unread_nothing = record {
    demands = λ d h e old other a b before agree. ap (λ (x : Option AbsState). is_met c.problem x a d) (one_before old other before) ∙ ap (λ (x : AbsState). is_met c.problem other x d) (one_state a b agree);
    broken = λ old other a b before agree. ap (λ (x : Option AbsState). (obligation c.problem).broken x a) (one_before old other before) ∙ ap ((obligation c.problem).broken other) (one_state a b agree);
  }

module _ (c : PosedCase) (order : List ℕ) (is : IsOrder (state_bits c) order) where
  pub order_arranges : IsArrangement c (arranged order)
  order_arranges = record {
    are_elements = λ x h. elim h [ ];
    are_apart = tt;
    have_places = λ slot h e i lt.
        let within = (slot_within c.problem.world 0 c.elements slot h).1 in
        order_has (state_bits c) order is (slot.bit + i) (omega arith);
    are_determined = tt;
    go_on = tt;
    are_unread = unread_nothing c;
  }
