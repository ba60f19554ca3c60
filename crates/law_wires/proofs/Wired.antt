-- Why elements stay determined where one that is left gets bits, and why those that are determined, with none left, are an arrangement.
use Rattle.std.proofs.Common.{◌≡◌, ℕ, List, [], ◌∷◌, ◌++◌, Bool, false, refl, sym, subst}
use Rattle.std.proofs.lemmas.List.{append-nil}
use Rattle.std.specs.List.{list_any}
use Rattle.law_lists.proofs.Booleans.{not_right}
use Rattle.law_obligations.specs.Sets.{Has}
use Rattle.law_obligations.specs.Cones.{AbsElement, element, same_element}
use Rattle.law_obligations.specs.Readings.{PosedCase, state_bits}
use Rattle.law_arrangements.specs.Arrangements.{EachWith, EachBetween, IsDetermined, IsArrangement}
use Rattle.law_arrangements.specs.Orders.{IsOrder}
use Rattle.law_arrangements.proofs.OrderLaws.{order_arranges}
use Rattle.law_arrangements.proofs.Views.{none_left, none_right, none_both}
use Rattle.law_wires.specs.Tries.{trying, AreDetermined}

-- ---- an element that is left gets bits

without : {X : Type 0} (test : X → Bool) (front : List X) (x : X) (left : List X) → list_any test (front ++ x ∷ left) ≡ false → list_any test (front ++ left) ≡ false
without test front x left e = none_both test front left (none_left test front (x ∷ left) e) (not_right (test x) (list_any test left) (none_right test front (x ∷ left) e))

goes : (c : PosedCase) (x : AbsElement) (left before done : List AbsElement) → EachBetween (λ before behind y. IsDetermined c before (behind ++ x ∷ left) y) before done → EachBetween (λ before behind y. IsDetermined c before (behind ++ left) y) before done
goes c x left before [] each = tt
goes c x left before (y ∷ done) each = (
  λ old other a b sa sb worked agree. each.0 old other a b sa sb worked (λ family ps none. agree family ps (without (same_element (element family ps)) (y ∷ done) x left none)),
  goes c x left (y ∷ before) done each.1,
)

pub left_may_go : (c : PosedCase) (done : List AbsElement) (x : AbsElement) (left : List AbsElement) → AreDetermined c done (x ∷ left) → AreDetermined c done left
left_may_go c done x left each = goes c x left [] done each

-- ---- none is left

pub wires_arrange : (c : PosedCase) (order : List ℕ) → IsOrder (state_bits c) order → (done : List AbsElement) → ((y : AbsElement) → Has done y → Has c.elements y) → EachWith (λ behind y. list_any (same_element y) behind ≡ false) done → AreDetermined c done [] →
    IsArrangement c (trying order done [])
wires_arrange c order is done among apart determined =
    let all = order_arranges c order is in
    record {
      are_elements = λ y h. among y (subst (λ (ys : List AbsElement). Has ys y) (append-nil done) h);
      are_apart = subst (EachWith (λ behind y. list_any (same_element y) behind ≡ false)) (sym (append-nil done)) apart;
      have_places = λ slot h e i lt. all.have_places slot h refl i lt;
      are_determined = determined;
      go_on = tt;
      are_unread = all.are_unread;
    }
