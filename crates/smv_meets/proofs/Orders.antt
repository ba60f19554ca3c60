-- A set that is rebuilt over an order of the bits, beside the lists of its case.
use Rattle.std.proofs.Common.{◌≡◌, ◌∙◌, ◌↔◌, ℕ, ◌+◌, ◌*◌, ◌/◌, ◌%◌, ◌<◌, List, length, Bool, true, false, IsTrue, if◌then◌else◌, refl, sym, ap, subst, arith}
use Rattle.std.specs.Prelude.{◌==◌, get_or}
use Rattle.bdd_store.specs.declared.Ref.{Ref}
use Rattle.bdd_store.specs.Diagram.{Diagram, AreLive, table}
use Rattle.bdd_store.specs.Graph.{with_at}
use Rattle.bdd_store.proofs.Walks.{with_other}
use Rattle.bdd_ops.specs.Functions.{Function}
use Rattle.smv_rings.specs.Lists.{Lists, State, IsCurrent, at}
use Rattle.smv_rings.specs.Paths.{IsInductive}
use Rattle.law_obligations.specs.Sets.{Has}
use Rattle.law_obligations.specs.Readings.{PosedCase, IsCase, state_bits}
use Rattle.smv_problem.specs.declared.problem.Problem.{Problem}
use Rattle.smv_problem.specs.WellFormed.{IsProblem, OfCases}
use Rattle.law_reports.specs.CaseLists.{current, case_lists}
use Rattle.law_arrangements.specs.Arrangements.{spread}
use Rattle.law_arrangements.specs.ArrangedLists.{lists_over}
use Rattle.law_arrangements.specs.Orders.{IsOrder, arranged}
use Rattle.law_arrangements.proofs.OrderLaws.{order_long}
use Rattle.law_moved_sets.specs.Moved.{moved}
use Rattle.law_moved_sets.specs.Laws.{OrdersKeepInduction}
use Rattle.smv_orders.specs.Places.{ArePlaces}
use Rattle.smv_orders.proofs.Orders.{spread_placed}
use Rattle.smv_proof.specs.declared.proof.KeptSet.{KeptSet}
use Rattle.smv_proof.specs.Meanings.{meaning, is_below}
use Rattle.smv_moved_sets.specs.Seen.{seen_by}
use Rattle.smv_meets.specs.Bits.{AreBitsAt}
use Rattle.smv_meets.proofs.Below.{meaning_below}

-- a store of two variables for each bit
pub vars_made : (p : Problem) (vars twice bits : ℕ) → vars ≡ 2 * twice → twice ≡ bits → OfCases p (λ c. bits ≡ state_bits c) → OfCases p (λ c. vars ≡ 2 * state_bits c)
vars_made p vars twice bits made same counted c is well = made ∙ ap (λ (n : ℕ). 2 * n) (same ∙ counted c is well)

-- the variables of the places of an order are there
pub places_room : (p : Problem) (order : List ℕ) → OfCases p (λ c. IsOrder (state_bits c) order) → IsProblem p → (vars : ℕ) → OfCases p (λ c. vars ≡ 2 * state_bits c) → (places shown : List ℕ) → shown ≡ places →
    ((q : ℕ) → Has places q → q < length order) → (q : ℕ) → Has shown q → 2 * q < vars
places_room p order orders (c, is, well) vars room places shown e below q h =
    let lt = below q (subst (λ (ps : List ℕ). Has ps q) e h) in
    let many = order_long (state_bits c) order (orders c is well) in
    let all = room c is well in
    omega (arith, lt, many, all)

pub bits_live : (d : Diagram) (places : List ℕ) (bits shown : List Ref) → AreBitsAt d places bits → shown ≡ bits → AreLive d shown
bits_live d places bits shown are e = subst (AreLive d) (sym e) (λ i lt. let count = are.count in are.live i (omega (arith, lt, count)))

at_half : (s : State) (v : ℕ) → at s v ≡ s (v / 2)
at_half s v = either (v % 2 == 0) (s (v / 2))
  where
    either : (t x : Bool) → (if t then x else x) ≡ x
    either true x = refl
    either false x = refl

module _ (n : ℕ) (set : KeptSet) (below : is_below (2 * n) set ≡ true) (d : Diagram) (places : List ℕ) (bits : List Ref) (count : length places ≡ n) (are : AreBitsAt d places bits) where
  abbrev pub seen : Function
  seen a = meaning set (seen_by d bits a)

  within : (v : ℕ) → v < 2 * n → v / 2 < length places
  within v lt = omega (arith, lt, count)

  -- a set reads the current bits alone
  pub seen_current : IsCurrent (λ a. meaning set (seen_by d bits a))
  seen_current b a = meaning_below (2 * n) set below (seen_by d bits (with_at a (2 * b + 1) false)) (seen_by d bits (with_at a (2 * b + 1) true)) (λ v lt.
      let p : ℕ = get_or places (v / 2) 0 in
      let apart : 2 * p ≡ 2 * b + 1 → ⊥ = λ e. omega (arith, e) in
      are.tables (v / 2) (within v lt) (with_at a (2 * b + 1) false)
      ∙ (with_other a (2 * b + 1) false (2 * p) apart ∙ (sym (with_other a (2 * b + 1) true (2 * p) apart) ∙ sym (are.tables (v / 2) (within v lt) (with_at a (2 * b + 1) true)))))

  pub seen_moved : (order : List ℕ) → ArePlaces order 0 places → (λ a. meaning set (seen_by d bits a)) ≡ moved order (meaning set)
  seen_moved order placed = λ i a. meaning_below (2 * n) set below (seen_by d bits a) (at (spread order (current a))) (λ v lt.
      let b : ℕ = v / 2 in
      let same : 0 + b ≡ b = omega arith in
      are.tables b (within v lt) a
      ∙ (sym (ap (spread order (current a)) (sym same) ∙ spread_placed order (current a) 0 places placed b (within v lt)) ∙ sym (at_half (spread order (current a)) v))) i

-- the answer of the test over the order is that of the case
pub answer_is : OrdersKeepInduction → (c : PosedCase) → IsCase c → (order : List ℕ) → IsOrder (state_bits c) order → (set : KeptSet) → is_below (2 * state_bits c) set ≡ true → (l : Lists) → l ≡ lists_over c (arranged order) →
    (f : Function) → f ≡ moved order (meaning set) → (x : Bool) → IsTrue x ↔ IsInductive l f → IsTrue x ↔ IsInductive (case_lists c) (meaning set)
answer_is law c is order o set below l lists f same x means =
    let iff = law c is order o (meaning set) (meaning_below (2 * state_bits c) set below) in (
      (λ t. iff.0 (subst (λ (g : Function). IsInductive (lists_over c (arranged order)) g) same (subst (λ (k : Lists). IsInductive k f) lists (means.0 t)))),
      (λ i. means.1 (subst (λ (k : Lists). IsInductive k f) (sym lists) (subst (λ (g : Function). IsInductive (lists_over c (arranged order)) g) (sym same) (iff.1 i)))),
    )

-- ---- the same, of slices that were made of the lists

module _ (set : KeptSet) (n : ℕ) (below : is_below (2 * n) set ≡ true) (d : Diagram) (places : List ℕ) (bits shown : List Ref) (are : AreBitsAt d places bits) (e : shown ≡ bits) (count : length places ≡ n) where
  pub below_shown : is_below (2 * length shown) set ≡ true
  below_shown =
      let same : n ≡ length shown = sym (ap (λ (rs : List Ref). length rs) e ∙ (are.count ∙ count)) in
      subst (λ (k : ℕ). is_below (2 * k) set ≡ true) same below

  shown_is : (f : Diagram) (r : Ref) → ((a : ℕ → Bool) → table f r a ≡ meaning set (seen_by d shown a)) → table f r ≡ seen n set below d places bits count are
  shown_is f r table_is = λ i a. (table_is a ∙ ap (λ (rs : List Ref). meaning set (seen_by d rs a)) e) i

  pub current_shown : (f : Diagram) (r : Ref) → ((a : ℕ → Bool) → table f r a ≡ meaning set (seen_by d shown a)) → IsCurrent (table f r)
  current_shown f r table_is = subst IsCurrent (sym (shown_is f r table_is)) (seen_current n set below d places bits count are)

  pub moved_shown : (order : List ℕ) → ArePlaces order 0 places → (f : Diagram) (r : Ref) → ((a : ℕ → Bool) → table f r a ≡ meaning set (seen_by d shown a)) → table f r ≡ moved order (meaning set)
  moved_shown order placed f r table_is = shown_is f r table_is ∙ seen_moved n set below d places bits count are order placed
