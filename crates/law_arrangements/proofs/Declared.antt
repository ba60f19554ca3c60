-- Over the declared arrangement the lists are the declared ones.
use Rattle.std.proofs.Common.{◌≡◌, ℕ, ◌<◌, List, [], ◌∷◌, ◌++◌, map, Bool, true, refl, ap, subst, ◌∙◌, Some, None, arith, filter}
use Rattle.std.specs.Prelude.{get_or}
use Rattle.std.specs.List.{list_all}
use Rattle.law_lists.proofs.Booleans.{and_alike}
use Rattle.smv_core.specs.Values.{numbers_from}
use Rattle.law_obligations.specs.Sets.{Has, first, later}
use Rattle.law_obligations.specs.May.{AbsState}
use Rattle.law_obligations.specs.Obligations.{Demanded, is_met, obligation}
use Rattle.law_obligations.specs.Bits.{Bits}
use Rattle.law_obligations.specs.Readings.{PosedCase, IsCase, Slot, is_value, slots, state_bits, reading}
use Rattle.law_obligations.proofs.CoverLists.{length-numbers}
use Rattle.law_obligations.proofs.ReadBack.{reading_agree, code_of_agree}
use Rattle.law_obligations.proofs.Spots.{Has-numbers}
use Rattle.law_reports.specs.CaseLists.{current, next, those_of, moving_first, claims, before_in_step, case_lists}
use Rattle.law_reports.specs.CaseLists as today
use Rattle.law_reports.proofs.Below.{in_slots}
use Rattle.law_arrangements.specs.Arrangements.{spread, IsArrangement, declared}
use Rattle.law_arrangements.specs.ArrangedLists.{met_first, met_step, element_first, element_step, slots_over, lists_over}
use Rattle.law_arrangements.proofs.Below.{spread_agree}
use Rattle.law_arrangements.proofs.OrderLaws.{number_at, order_arranges, declared_order}
use Rattle.law_arrangements.proofs.Views.{gathered, spread_gathered}

pub filter_all : {X : Type 0} (xs : List X) → filter (λ x. true) xs ≡ xs
filter_all [] = refl
filter_all (x ∷ xs) = ap (λ ys. x ∷ ys) (filter_all xs)

map_same : {X Y : Type 0} (f g : X → Y) (xs : List X) → ((x : X) → Has xs x → f x ≡ g x) → map f xs ≡ map g xs
map_same f g [] same = refl
map_same f g (x ∷ xs) same = ap (λ y. y ∷ map f xs) (same x first) ∙ ap (λ ys. g x ∷ ys) (map_same f g xs (λ y h. same y (later h)))

both_same : {X : Type 0} {xs ys us vs : List X} → xs ≡ ys → us ≡ vs → xs ++ us ≡ ys ++ vs
both_same {xs = xs} {vs = vs} e g = ap (λ ws. xs ++ ws) g ∙ ap (λ ws. ws ++ vs) e

module _ (c : PosedCase) (is : IsCase c) where
  abbrev order : List ℕ
  order = numbers_from 0 (state_bits c)

  spread_same : (s : Bits) (b : ℕ) → b < state_bits c → spread (numbers_from 0 (state_bits c)) s b ≡ s b
  spread_same s b lt =
      spread_agree order s (gathered c is order s) (λ v less.
      let below : v < state_bits c = subst (λ (m : ℕ). v < m) (length-numbers 0 (state_bits c)) less in
      let e = number_at 0 (state_bits c) v 0 below in
      let at : v ≡ get_or (numbers_from 0 (state_bits c)) v 0 = omega arith in
      ap s at) b
      ∙ spread_gathered c is order s b (Has-numbers 0 (state_bits c) b (omega arith) (omega arith))

  seen_same : (s : Bits) → reading c (spread (numbers_from 0 (state_bits c)) s) ≡ reading c s
  seen_same s = reading_agree c (spread order s) s (λ v lt. spread_same s v lt)

  value_same : (s : Bits) (slot : Slot) → Has (slots c) slot → is_value c.problem.world (spread (numbers_from 0 (state_bits c)) s) slot ≡ is_value c.problem.world s slot
  value_same s slot h = code_of_agree c (spread order s) s (λ v lt. spread_same s v lt) slot h

  step_same : (p : AbsState → AbsState → Bool) (a : ℕ → Bool) → p (reading c (spread (numbers_from 0 (state_bits c)) (current a))) (reading c (spread (numbers_from 0 (state_bits c)) (next a))) ≡ p (reading c (current a)) (reading c (next a))
  step_same p a = ap (λ (x : AbsState). p x (reading c (spread order (next a)))) (seen_same (current a)) ∙ ap (p (reading c (current a))) (seen_same (next a))

  met_first_same : (demand : Demanded) → met_first c (declared c) demand ≡ today.met_first c demand
  met_first_same demand = λ i a. ap (λ (x : AbsState). is_met c.problem None x demand) (seen_same (current a)) i

  met_step_same : (demand : Demanded) → met_step c (declared c) demand ≡ today.met_step c demand
  met_step_same demand = λ i a. step_same (λ x y. is_met c.problem (Some x) y demand) a i

  element_first_same : (slot : Slot) → Has (slots c) slot → element_first c (declared c) slot ≡ today.element_first c slot
  element_first_same slot h = λ i a.
      and_alike _ _ _ _ (value_same (current a) slot h) (ap (λ (x : AbsState). list_all (is_met c.problem None x) (those_of c.problem.now slot.element)) (seen_same (current a))) i

  element_step_same : (slot : Slot) → Has (slots c) slot → element_step c (declared c) slot ≡ today.element_step c slot
  element_step_same slot h = λ i a.
      and_alike _ _ _ _ (value_same (next a) slot h) (step_same (λ x y. list_all (is_met c.problem (Some x) y) (those_of c.problem.now slot.element)) a) i

  all_slots : slots_over c (declared c) ≡ slots c
  all_slots = filter_all (slots c)

  pub declared_is_today : lists_over c (declared c) ≡ case_lists c
  unfolding lists_over case_lists
  declared_is_today = λ i. record {
    now_first = both_same
        (ap (map (element_first c (declared c))) all_slots ∙ map_same (element_first c (declared c)) (today.element_first c) (slots c) element_first_same)
        (map_same (met_first c (declared c)) (today.met_first c) (claims c c.problem.now) (λ demand h. met_first_same demand)) i;
    before_first = (ap (map (met_first c (declared c))) (filter_all c.problem.before) ∙ map_same (met_first c (declared c)) (today.met_first c) c.problem.before (λ demand h. met_first_same demand)) i;
    broken_first = λ a. ap ((obligation c.problem).broken None) (seen_same (current a)) i;
    now_step = both_same
        (ap (λ ss. map (element_step c (declared c)) (moving_first c.problem.now ss)) all_slots
        ∙ map_same (element_step c (declared c)) (today.element_step c) (moving_first c.problem.now (slots c)) (λ slot h. element_step_same slot (in_slots c c.problem.now slot h)))
        (map_same (met_step c (declared c)) (today.met_step c) (claims c c.problem.now) (λ demand h. met_step_same demand)) i;
    before_step = (ap (map (met_step c (declared c))) (filter_all (before_in_step c)) ∙ map_same (met_step c (declared c)) (today.met_step c) (before_in_step c) (λ demand h. met_step_same demand)) i;
    broken_step = λ a. step_same (λ x y. (obligation c.problem).broken (Some x) y) a i;
    bits = length-numbers 0 (state_bits c) i;
  }

  pub declared_is_arrangement : IsArrangement c (declared c)
  declared_is_arrangement = order_arranges c (numbers_from 0 (state_bits c)) (declared_order (state_bits c))
