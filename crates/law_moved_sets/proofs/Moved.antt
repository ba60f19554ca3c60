-- Over an order of the bits a set is inductive exactly where it is so as declared.
use Rattle.std.proofs.Common.{◌≡◌, ◌↔◌, ℕ, ◌*◌, ◌/◌, ◌%◌, ◌<◌, List, [], Bool, true, false, ◌&&◌, refl, ap, subst, ◌∙◌, arith, if◌then◌else◌}
use Rattle.std.specs.Prelude.{◌==◌}
use Rattle.bdd_ops.specs.Functions.{Function}
use Rattle.smv_rings.specs.Functions.{DependsBelow}
use Rattle.smv_rings.specs.Lists.{State, at}
use Rattle.smv_rings.specs.Paths.{IsInductive}
use Rattle.law_obligations.specs.Bits.{Bits}
use Rattle.law_obligations.specs.Readings.{PosedCase, IsCase, is_value, slots, state_bits, are_values}
use Rattle.law_obligations.specs.CasePaths.{IsInvariant}
use Rattle.law_obligations.proofs.Members.{all-holds}
use Rattle.law_reports.specs.CaseLists.{case_lists}
use Rattle.law_reports.proofs.Means.{current_both}
use Rattle.law_reports.proofs.Paths.{induction_to, induction_from}
use Rattle.law_arrangements.specs.Arrangements.{IsArrangement, spread}
use Rattle.law_arrangements.specs.ArrangedLists.{lists_over}
use Rattle.law_arrangements.specs.Orders.{IsOrder, arranged}
use Rattle.law_arrangements.proofs.Views.{gathered, spread_gathered}
use Rattle.law_arrangements.proofs.OrderLaws.{order_has, order_arranges}
use Rattle.law_arrangements.proofs.Invariants.{inductive_is_invariant}
use Rattle.law_moved_sets.specs.Moved.{moved}
use Rattle.law_moved_sets.proofs.Filled.{IsFill, inductive_over}

-- states with the same bits below a number are the same to whatever depends on these alone
at_agree : (s t : State) (n : ℕ) → ((b : ℕ) → b < n → s b ≡ t b) → (v : ℕ) → v < 2 * n → at s v ≡ at t v
at_agree s t n same v lt = ap (λ (x : Bool). if v % 2 == 0 then x else x) (same (v / 2) (omega arith))

and_true : (b : Bool) → (b && true) ≡ b
and_true true = refl
and_true false = refl

module _ (c : PosedCase) (is : IsCase c) (order : List ℕ) (o : IsOrder (state_bits c) order) where
  ok : IsArrangement c (arranged order)
  ok = order_arranges c order o

  places_fill : IsFill c is order [] ok (spread order)
  unfolding are_values
  places_fill = record {
    reads = λ s. refl;
    values = λ s have. all-holds (is_value c.problem.world (spread order s)) (slots c) (λ slot h. have slot h refl);
  }

  moved_at : (set : Function) (s : State) → moved order set (at s) ≡ set (at (spread order s))
  moved_at set s = ap (λ (x : State). set (at (spread order x))) (current_both s s)

  moved_back : (set : Function) → DependsBelow (2 * state_bits c) set → (t : State) → moved order set (at (gathered c is order t)) ≡ set (at t)
  moved_back set below t =
      moved_at set (gathered c is order t)
      ∙ below (at (spread order (gathered c is order t))) (at t) (at_agree (spread order (gathered c is order t)) t (state_bits c) (λ b lt. spread_gathered c is order t b (order_has (state_bits c) order o b lt)))

  abbrev set_over : Function → Bits → Bool
  set_over set t = moved order set (at (gathered c is order t)) && true

  abbrev set_of : Function → Bits → Bool
  set_of set t = set (at t)

  same_sets : (set : Function) → DependsBelow (2 * state_bits c) set → set_over set ≡ set_of set
  same_sets set below = λ i t. (and_true (moved order set (at (gathered c is order t))) ∙ moved_back set below t) i

  pub order_keeps : (set : Function) → DependsBelow (2 * state_bits c) set → IsInductive (lists_over c (arranged order)) (moved order set) ↔ IsInductive (case_lists c) set
  order_keeps set below = (
    (λ i. induction_from c is set (subst (IsInvariant c) (same_sets set below) (inductive_is_invariant c is (arranged order) ok (moved order set) i))),
    (λ i. inductive_over c is order [] ok (spread order) places_fill set (moved order set) (moved_at set) (induction_to c is set i)),
  )
