-- Orders of bits, and the places of these.
use Rattle.std.proofs.Common.{◌≡◌, ℕ, zero, suc, ◌+◌, ◌<◌, ◌≤◌, List, [], ◌∷◌, ◌++◌, length, get_or, set, Bool, true, false, refl, sym, ap, subst, ◌∙◌, Option, Some, nat_eq, arith}
use Rattle.std.specs.Option.{unwrap_or}
use Rattle.std.proofs.lemmas.List.{get_or-set_other}
use Rattle.std.proofs.lemmas.Grind.{get_or-set_at}
use Rattle.std.proofs.lemmas.Bool.Decides.{nat_tests}
use Rattle.smv_core.specs.Values.{numbers_from}
use Rattle.law_obligations.specs.Sets.{Has, first, later}
use Rattle.law_obligations.specs.Bits.{Bits}
use Rattle.law_obligations.specs.Outlines.{place_of}
use Rattle.law_obligations.specs.Readings.{state_bits}
use Rattle.law_arrangements.specs.Arrangements.{at_place, spread}
use Rattle.law_arrangements.specs.Orders.{IsOrder}
use Rattle.law_arrangements.proofs.OrderLaws.{order_long, order_has, places_own}
use Rattle.smv_problem.specs.declared.problem.Problem.{Problem}
use Rattle.smv_problem.specs.WellFormed.{IsProblem, OfCases}
use Rattle.smv_readings.proofs.Counts.{bits-of-cases, bits-few}
use Rattle.smv_orders.specs.Places.{ArePlaces}

-- ---- the place of a bit

-- where a bit stands
pub has_index : (order : List ℕ) (bit : ℕ) → Has order bit → (i : ℕ) × (i < length order) × (get_or order i 0 ≡ bit)
has_index [] bit h = elim h [ ]
has_index (x ∷ order) _ first = (0, omega arith, refl)
has_index (x ∷ order) bit (later h) = let r = has_index order bit h in let lt = r.1 in (suc r.0, omega arith, r.2)

-- the bit of each number has a place
pub bit_has : (order : List ℕ) → IsOrder (length order) order → (b : ℕ) → b < length order → Has order b
bit_has order is b lt = order_has (length order) order is b lt

-- ---- the places of all bits, written bit by bit of the order

-- each bit has the place that is listed for it
all_placed : (order : List ℕ) (bit : ℕ) (places : List ℕ) → ((b : ℕ) → b < length places → place_of (nat_eq (bit + b)) order ≡ Some (get_or places b 0)) → ArePlaces order bit places
all_placed order bit [] each = tt
all_placed order bit (p ∷ places) each =
    let same : bit + 0 ≡ bit = omega arith in (
      subst (λ (n : ℕ). place_of (nat_eq n) order ≡ Some p) same (each 0 (omega arith)),
      all_placed order (suc bit) places (λ b lt. let next : bit + suc b ≡ suc bit + b = omega arith in subst (λ (n : ℕ). place_of (nat_eq n) order ≡ Some (get_or places b 0)) next (each (suc b) (omega (arith, lt)))),
    )

some_alike : (j k : ℕ) → Some j ≡ Some k → j ≡ k
some_alike j k e = ap (λ (o : Option ℕ). unwrap_or o 0) e

-- the bits of an order stand at these places so far
abbrev pub Stand : List ℕ → ℕ → List ℕ → Type 0
Stand order count places = (j : ℕ) → j < count → get_or places (get_or order j 0) 0 ≡ j

module _ (order : List ℕ) (is : IsOrder (length order) order) where
  -- a bit stands at one place alone
  one_place : (j k : ℕ) → j < length order → k < length order → get_or order j 0 ≡ get_or order k 0 → j ≡ k
  one_place j k lt below same =
      some_alike j k (sym (places_own (length order) order is j lt).1 ∙ ap (λ (bit : ℕ). place_of (nat_eq bit) order) same ∙ (places_own (length order) order is k below).1)

  pub bit_within : (k : ℕ) → k < length order → get_or order k 0 < length order
  bit_within k lt = (places_own (length order) order is k lt).0

  -- one place more
  pub stand_next : (places : List ℕ) (place : ℕ) → length places ≡ length order → place < length order → Stand order place places → Stand order (place + 1) (set places (get_or order place 0) place)
  stand_next places place long lt stand j below = stand_case (nat_eq j place) refl
    where
      stand_case : (same : Bool) → nat_eq j place ≡ same → get_or (set places (get_or order place 0) place) (get_or order j 0) 0 ≡ j
      stand_case true e =
          let at : j ≡ place = grind (arith, nat_tests) in
          let there = bit_within place lt in
          get_or-set_at places (get_or order place 0) (get_or order j 0) place 0 (ap (λ (k : ℕ). get_or order k 0) at) (omega (arith, there, long)) ∙ sym at
      stand_case false e =
          let apart : j ≡ place → ⊥ = grind (arith, nat_tests) in
          let before : j < place = omega (arith, below, apart) in
          get_or-set_other places (get_or order place 0) (get_or order j 0) place 0 (λ same. apart (one_place j place (omega (arith, before, lt)) lt same)) ∙ stand j before

  module _ (places : List ℕ) (long : length places ≡ length order) (stand : Stand order (length order) places) where
    -- each bit has its place
    each_place : (b : ℕ) → b < length places → (place_of (nat_eq b) order ≡ Some (get_or places b 0)) × (get_or places b 0 < length order)
    each_place b lt =
        let found = has_index order b (bit_has order is b (omega (arith, lt, long))) in
        let i : ℕ = found.0 in
        let at : get_or order i 0 ≡ b = found.2 in
        let here : get_or places b 0 ≡ i = ap (λ (n : ℕ). get_or places n 0) (sym at) ∙ stand i found.1 in
        let below : i < length order = found.1 in
        (ap (λ (n : ℕ). place_of (nat_eq n) order) (sym at) ∙ (places_own (length order) order is i found.1).1 ∙ ap Some (sym here), omega (arith, here, below))

    pub are_placed : ArePlaces order 0 places
    are_placed = all_placed order 0 places (λ b lt. let same : 0 + b ≡ b = omega arith in subst (λ (n : ℕ). place_of (nat_eq n) order ≡ Some (get_or places b 0)) (sym same) (each_place b lt).0)

    pub are_within : (p : ℕ) → Has places p → p < length order
    are_within p h =
        let found = has_index places p h in
        let at : get_or places found.0 0 ≡ p = found.2 in
        let below = (each_place found.0 found.1).1 in
        omega (arith, at, below)

-- the place of some bits, and of those behind them
pub places_apart : (order : List ℕ) (bit : ℕ) (own behind : List ℕ) → ArePlaces order bit (own ++ behind) → ArePlaces order bit own × ArePlaces order (bit + length own) behind
places_apart order bit [] behind placed = (tt, let same : bit ≡ bit + 0 = omega arith in subst (λ (b : ℕ). ArePlaces order b behind) same placed)
places_apart order bit (p ∷ own) behind placed =
    let more = places_apart order (suc bit) own behind placed.1 in
    let same : suc bit + length own ≡ bit + suc (length own) = omega arith in
    ((placed.0, more.0), subst (λ (b : ℕ). ArePlaces order b behind) same more.1)

-- a bit is read at its place
pub spread_placed : (order : List ℕ) (s : Bits) (bit : ℕ) (places : List ℕ) → ArePlaces order bit places → (b : ℕ) → b < length places → spread order s (bit + b) ≡ s (get_or places b 0)
spread_placed order s bit [] placed b lt = absurd (omega arith)
spread_placed order s bit (p ∷ places) placed zero lt =
    let same : bit + 0 ≡ bit = omega arith in
    ap (spread order s) same ∙ ap (at_place s) placed.0
spread_placed order s bit (p ∷ places) placed (suc b) lt =
    let same : bit + suc b ≡ suc bit + b = omega arith in
    ap (spread order s) same ∙ spread_placed order s (suc bit) places placed.1 b (omega arith)

pub has_at : (places : List ℕ) (i : ℕ) → i < length places → Has places (get_or places i 0)
has_at [] i lt = absurd (omega arith)
has_at (p ∷ places) zero lt = first
has_at (p ∷ places) (suc i) lt = later (has_at places i (omega arith))

-- ---- an order of the bits of a problem

module _ (p : Problem) (order : List ℕ) (orders : OfCases p (λ c. IsOrder (state_bits c) order)) where
  pub order_few : IsProblem p → length order ≤ 65535
  order_few (c, is, well) =
      let many = order_long (state_bits c) order (orders c is well) in
      let bits = bits-of-cases p c is in
      let few = bits-few p (c, is, well) in
      omega (arith, many, bits, few)

  pub order_whole : IsProblem p → IsOrder (length order) order
  order_whole (c, is, well) = subst (λ (n : ℕ). IsOrder n order) (sym (order_long (state_bits c) order (orders c is well))) (orders c is well)

  pub places_counted : (places : List ℕ) → length places ≡ length order → OfCases p (λ c. length places ≡ state_bits c)
  places_counted places long c is well = long ∙ order_long (state_bits c) order (orders c is well)

-- one number more
pub numbers_pushed : (low n : ℕ) → numbers_from low (n + 1) ≡ numbers_from low n ++ (low + n) ∷ []
numbers_pushed low zero = let same : low ≡ low + 0 = omega arith in ap (λ (m : ℕ). m ∷ []) same
numbers_pushed low (suc n) =
    let one : suc n + 1 ≡ suc (n + 1) = omega arith in
    let same : low + 1 + n ≡ low + suc n = omega arith in
    ap (numbers_from low) one ∙ ap (λ (xs : List ℕ). low ∷ xs) (numbers_pushed (low + 1) n) ∙ ap (λ (m : ℕ). low ∷ (numbers_from (low + 1) n ++ m ∷ [])) same
