-- The lists over an arrangement are over its places.
use Rattle.std.proofs.Common.{◌≡◌, ℕ, suc, ◌+◌, ◌*◌, ◌<◌, List, [], ◌∷◌, ◌++◌, map, length, Bool, true, false, cond, ◌&&◌, refl, sym, ap, subst, ◌∙◌, inl, inr, Some, None, arith, filter, nat_eq}
use Rattle.std.specs.Prelude.{option_map}
use Rattle.std.specs.List.{list_all}
use Rattle.bdd_store.specs.Graph.{with_at}
use Rattle.bdd_store.proofs.Walks.{with_other}
use Rattle.bdd_ops.specs.Functions.{Function}
use Rattle.smv_rings.specs.Functions.{DependsBelow}
use Rattle.smv_rings.specs.Lists.{State, AllBelow, IsCurrent, AllCurrent, IsLists}
use Rattle.law_obligations.specs.Sets.{Has, first, later}
use Rattle.law_obligations.specs.May.{AbsState}
use Rattle.law_obligations.specs.Obligations.{Demanded, is_met, obligation}
use Rattle.law_obligations.specs.Outlines.{place_of}
use Rattle.law_obligations.specs.Bits.{Bits}
use Rattle.law_obligations.specs.Readings.{PosedCase, Slot, is_value, reading}
use Rattle.law_obligations.proofs.Members.{Has-cases, Has-from_map}
use Rattle.law_reports.specs.CaseLists.{current, next, those_of, moving_first, claims, before_in_step}
use Rattle.law_arrangements.specs.Arrangements.{Arrangement, at_place, spread, worked_out, view}
use Rattle.law_arrangements.specs.ArrangedLists.{is_asked, old_view, new_view, met_first, met_step, element_first, element_step, slots_over, lists_over}
use Rattle.law_arrangements.proofs.Views.{next_place}

all_below : (n : ℕ) (fs : List Function) → ((f : Function) → Has fs f → DependsBelow n f) → AllBelow n fs
all_below n [] each = tt
all_below n (f ∷ fs) each = (each f first, all_below n fs (λ g h. each g (later h)))

all_current : (fs : List Function) → ((f : Function) → Has fs f → IsCurrent f) → AllCurrent fs
all_current [] each = tt
all_current (f ∷ fs) each = (each f first, all_current fs (λ g h. each g (later h)))

current_free : (b : ℕ) (a : ℕ → Bool) → current (with_at a (2 * b + 1) false) ≡ current (with_at a (2 * b + 1) true)
current_free b a = λ i k. at_each k i
  where
    at_each : (k : ℕ) → current (with_at a (2 * b + 1) false) k ≡ current (with_at a (2 * b + 1) true) k
    at_each k = with_other a (2 * b + 1) false (2 * k) (omega arith) ∙ sym (with_other a (2 * b + 1) true (2 * k) (omega arith))

is_current : (g : State → Bool) → IsCurrent (λ a. g (current a))
is_current g b a = ap g (current_free b a)

pub spread_agree : (order : List ℕ) (s t : Bits) → ((v : ℕ) → v < length order → s v ≡ t v) → (b : ℕ) → spread order s b ≡ spread order t b
spread_agree [] s t same b = refl
spread_agree (x ∷ xs) s t same b = at (nat_eq b x) (spread_agree xs (λ k. s (suc k)) (λ k. t (suc k)) (λ v lt. same (suc v) (omega arith)) b)
  where
    at : (p : Bool) → spread xs (λ k. s (suc k)) b ≡ spread xs (λ k. t (suc k)) b →
        at_place s (cond p (Some 0) (option_map (λ k. suc k) (place_of (nat_eq b) xs))) ≡ at_place t (cond p (Some 0) (option_map (λ k. suc k) (place_of (nat_eq b) xs)))
    at true goes = same 0 (omega arith)
    at false goes = next_place s (place_of (nat_eq b) xs) ∙ (goes ∙ sym (next_place t (place_of (nat_eq b) xs)))

module _ (c : PosedCase) (o : Arrangement) where
  abbrev Agree : (ℕ → Bool) → (ℕ → Bool) → Type 0
  Agree a d = (v : ℕ) → v < 2 * length o.order → a v ≡ d v

  old_spread : (a d : ℕ → Bool) → Agree a d → spread o.order (current a) ≡ spread o.order (current d)
  old_spread a d same = λ i b. spread_agree o.order (current a) (current d) (λ v lt. same (2 * v) (omega arith)) b i

  new_spread : (a d : ℕ → Bool) → Agree a d → spread o.order (next a) ≡ spread o.order (next d)
  new_spread a d same = λ i b. spread_agree o.order (next a) (next d) (λ v lt. same (2 * v + 1) (omega arith)) b i

  of_spread : (s t : Bits) → s ≡ t → worked_out c c.problem.now o.determined None (reading c s) ≡ worked_out c c.problem.now o.determined None (reading c t)
  of_spread s t e = ap (λ (x : Bits). worked_out c c.problem.now o.determined None (reading c x)) e

  old_agree : (a d : ℕ → Bool) → Agree a d → old_view c o a ≡ old_view c o d
  old_agree a d same = of_spread (spread o.order (current a)) (spread o.order (current d)) (old_spread a d same)

  new_agree : (a d : ℕ → Bool) → Agree a d → new_view c o a ≡ new_view c o d
  new_agree a d same = of_spread (spread o.order (next a)) (spread o.order (next d)) (new_spread a d same)

  met_first_below : (demand : Demanded) → DependsBelow (2 * length o.order) (met_first c o demand)
  met_first_below demand a d same = ap (λ (x : AbsState). is_met c.problem None x demand) (old_agree a d same)

  met_step_below : (demand : Demanded) → DependsBelow (2 * length o.order) (met_step c o demand)
  met_step_below demand a d same =
      ap (λ (x : AbsState). is_met c.problem (Some x) (new_view c o a) demand) (old_agree a d same) ∙ ap (λ (x : AbsState). is_met c.problem (Some (old_view c o d)) x demand) (new_agree a d same)

  element_first_below : (slot : Slot) → DependsBelow (2 * length o.order) (element_first c o slot)
  element_first_below slot a d same =
      ap (λ (x : Bits). is_value c.problem.world x slot && list_all (is_met c.problem None (old_view c o a)) (those_of c.problem.now slot.element)) (old_spread a d same)
      ∙ ap (λ (x : AbsState). is_value c.problem.world (spread o.order (current d)) slot && list_all (is_met c.problem None x) (those_of c.problem.now slot.element)) (old_agree a d same)

  element_step_below : (slot : Slot) → DependsBelow (2 * length o.order) (element_step c o slot)
  element_step_below slot a d same =
      ap (λ (x : Bits). is_value c.problem.world x slot && list_all (is_met c.problem (Some (old_view c o a)) (new_view c o a)) (those_of c.problem.now slot.element)) (new_spread a d same)
      ∙ (ap (λ (x : AbsState). is_value c.problem.world (spread o.order (next d)) slot && list_all (is_met c.problem (Some x) (new_view c o a)) (those_of c.problem.now slot.element)) (old_agree a d same)
      ∙ ap (λ (x : AbsState). is_value c.problem.world (spread o.order (next d)) slot && list_all (is_met c.problem (Some (old_view c o d)) x) (those_of c.problem.now slot.element)) (new_agree a d same))

  each_of : {X : Type 0} (P : Function → Type 0) (g : X → Function) (xs : List X) → ((x : X) → P (g x)) → (f : Function) → Has (map g xs) f → P f
  each_of P g xs of f h = let r = Has-from_map g xs h in subst P (sym r.2) (of r.0)

  each_both : {X Y : Type 0} (P : Function → Type 0) (g : X → Function) (k : Y → Function) (xs : List X) (ys : List Y) → ((x : X) → P (g x)) → ((y : Y) → P (k y)) → (f : Function) → Has (map g xs ++ map k ys) f → P f
  each_both P g k xs ys of also f h = elim (Has-cases (map g xs) (map k ys) h) [ inl l ↦ each_of P g xs of f l | inr r ↦ each_of P k ys also f r ]

  pub are_lists : IsLists (lists_over c o)
  unfolding lists_over
  are_lists = record {
    now_first = (
      all_below (2 * length o.order) (map (element_first c o) (slots_over c o) ++ map (met_first c o) (claims c c.problem.now))
          (each_both (DependsBelow (2 * length o.order)) (element_first c o) (met_first c o) (slots_over c o) (claims c c.problem.now) element_first_below met_first_below),
      all_current (map (element_first c o) (slots_over c o) ++ map (met_first c o) (claims c c.problem.now))
          (each_both IsCurrent (element_first c o) (met_first c o) (slots_over c o) (claims c c.problem.now)
          (λ slot. is_current (λ s. is_value c.problem.world (spread o.order s) slot && list_all (is_met c.problem None (view c o s)) (those_of c.problem.now slot.element)))
          (λ demand. is_current (λ s. is_met c.problem None (view c o s) demand))),
    );
    before_first = (
      all_below (2 * length o.order) (map (met_first c o) (filter (is_asked o) c.problem.before)) (each_of (DependsBelow (2 * length o.order)) (met_first c o) (filter (is_asked o) c.problem.before) met_first_below),
      all_current (map (met_first c o) (filter (is_asked o) c.problem.before)) (each_of IsCurrent (met_first c o) (filter (is_asked o) c.problem.before) (λ demand. is_current (λ s. is_met c.problem None (view c o s) demand))),
    );
    broken_first = (
      λ a d same. ap ((obligation c.problem).broken None) (old_agree a d same),
      is_current (λ s. (obligation c.problem).broken None (view c o s)),
    );
    now_step = all_below (2 * length o.order) (map (element_step c o) (moving_first c.problem.now (slots_over c o)) ++ map (met_step c o) (claims c c.problem.now))
        (each_both (DependsBelow (2 * length o.order)) (element_step c o) (met_step c o) (moving_first c.problem.now (slots_over c o)) (claims c c.problem.now) element_step_below met_step_below);
    before_step = all_below (2 * length o.order) (map (met_step c o) (filter (is_asked o) (before_in_step c))) (each_of (DependsBelow (2 * length o.order)) (met_step c o) (filter (is_asked o) (before_in_step c)) met_step_below);
    broken_step = λ a d same.
        ap (λ (x : AbsState). (obligation c.problem).broken (Some x) (new_view c o a)) (old_agree a d same) ∙ ap (λ (x : AbsState). (obligation c.problem).broken (Some (old_view c o d)) x) (new_agree a d same);
  }
