-- Inductive sets over an arrangement are inductive sets of the case.
use Rattle.std.proofs.Common.{◌≡◌, ℕ, List, [], ◌∷◌, ◌++◌, Bool, true, false, ◌&&◌, sym, ap, ◌∙◌, inl, inr, Option, Some, None}
use Rattle.std.specs.List.{list_any}
use Rattle.std.proofs.lemmas.Bool.{cases_Bool}
use Rattle.law_lists.proofs.Booleans.{and_both, left_of, right_of}
use Rattle.bdd_ops.specs.Functions.{Function}
use Rattle.smv_rings.specs.Lists.{at}
use Rattle.smv_rings.specs.Paths.{IsInductive}
use Rattle.law_obligations.specs.Sets.{Has, first, later}
use Rattle.law_obligations.specs.Places.{same_place}
use Rattle.law_obligations.specs.May.{AbsState}
use Rattle.law_obligations.specs.Obligations.{Demanded, is_met, obligation}
use Rattle.law_obligations.specs.Cones.{AbsElement, element, same_element}
use Rattle.law_obligations.specs.Bits.{Bits}
use Rattle.law_obligations.specs.Readings.{PosedCase, IsCase, Slot, is_value, slots, are_values, reading}
use Rattle.law_obligations.specs.CasePaths.{IsInvariant}
use Rattle.law_obligations.proofs.ConeFacts.{same_element-family, same_element-indexes}
use Rattle.law_obligations.proofs.Lookups.{Has-from_filter}
use Rattle.law_obligations.proofs.Members.{Has-left, Has-right, any-some, all-each, all-holds}
use Rattle.law_obligations.proofs.ReadBack.{reading_is_state}
use Rattle.law_obligations.proofs.Same.{same_place-itself, same_place-is}
use Rattle.law_reports.specs.CaseLists.{defines, those_of}
use Rattle.law_arrangements.specs.Arrangements.{Arrangement, AgreeBeside, AgreeBefore, spread, IsArrangement, view}
use Rattle.law_arrangements.specs.ArrangedLists.{lists_over}
use Rattle.law_arrangements.specs.Laws.{gathered, is_completed}
use Rattle.law_arrangements.proofs.Views.{none_right, none_both, Apart, follows, value_gathered, reading_gathered}
use Rattle.law_arrangements.proofs.Meets.{IsOther, first_from, before_first_from, broken_first_is, step_from, before_step_from, broken_step_is}
use Rattle.law_arrangements.proofs.Paths.{det_in, view_found}

apart_across : (xs ys : List AbsElement) → Apart (xs ++ ys) → (x : AbsElement) → Has xs x → list_any (same_element x) ys ≡ false
apart_across [] ys apart x h = elim h [ ]
apart_across (x ∷ xs) ys apart _ first = none_right (same_element x) xs ys apart.0
apart_across (y ∷ xs) ys apart x (later h) = apart_across xs ys apart.1 x h

module _ (c : PosedCase) (is : IsCase c) (o : Arrangement) (ok : IsArrangement c o) where
  abbrev pub seen : Bits → AbsState
  seen t = view c o (gathered o t)

  abbrev pub now_met : Option AbsState → AbsState → Bool
  now_met old now = (obligation c.problem).now old now

  abbrev pub before_met : Option AbsState → AbsState → Bool
  before_met old now = (obligation c.problem).before old now

  abbrev broken_at : Option AbsState → AbsState → Bool
  broken_at old now = (obligation c.problem).broken old now

  -- a state in which the demands of now hold is what its places are read as, but at idle elements
  pub agrees : (old : Option AbsState) (t : Bits) → now_met old (reading c t) ≡ true → AgreeBeside o.idle (seen t) (reading c t)
  agrees old t met =
      follows c is o.determined o.idle ok.are_determined ok.are_apart (det_in c is o ok) old (reading c t) (reading c (spread o.order (gathered o t))) (reading_is_state c is t) (reading_is_state c is (spread o.order (gathered o t)))
      (λ x h. all-holds (is_met c.problem old (reading c t)) (those_of c.problem.now x) (λ d g. all-each (is_met c.problem old (reading c t)) met (Has-from_filter (defines x) c.problem.now g).0))
      (reading_gathered c is o ok.have_places t)

  -- so is one that is completed
  completed_agrees : (t : Bits) → is_completed c o t ≡ true → AgreeBeside o.idle (seen t) (reading c t)
  completed_agrees t e family ps other = elim (cases_Bool (list_any (same_element (element family ps)) o.determined)) [
    | inl d ↦
        let r = any-some (same_element (element family ps)) o.determined d in
        let x = r.0 in
        let moved : (f : AbsState) → f family ps ≡ f x.family x.indexes = λ f. ap (λ (k : ℕ). f k ps) (same_element-family (element family ps) x r.2) ∙ ap (f x.family) (same_element-indexes (element family ps) x r.2) in
        let same : reading c t x.family x.indexes ≡ seen t x.family x.indexes =
        same_place-is (reading c t x.family x.indexes) (seen t x.family x.indexes) (all-each (λ (y : AbsElement). same_place (reading c t y.family y.indexes) (seen t y.family y.indexes)) e r.1) in
        moved (seen t) ∙ (sym same ∙ sym (moved (reading c t)))
    | inr n ↦ (view_found c is o ok (gathered o t)).agrees family ps n ∙ reading_gathered c is o ok.have_places t family ps (none_both (same_element (element family ps)) o.determined o.idle n other)
  ]

  completed : (t : Bits) → AgreeBeside o.idle (seen t) (reading c t) → is_completed c o t ≡ true
  completed t agree = all-holds (λ (x : AbsElement). same_place (reading c t x.family x.indexes) (seen t x.family x.indexes)) o.determined (λ x h.
      ap (same_place (reading c t x.family x.indexes)) (agree x.family x.indexes (apart_across o.determined o.idle ok.are_apart x h)) ∙ same_place-itself (reading c t x.family x.indexes))

  pub have_values : (t : Bits) → are_values c t ≡ true → (slot : Slot) → Has (slots c) slot → list_any (same_element slot.element) (o.determined ++ o.idle) ≡ false → is_value c.problem.world (spread o.order (gathered o t)) slot ≡ true
  unfolding are_values
  have_values t values slot h e = value_gathered c is o ok.have_places t slot h e ∙ all-each (is_value c.problem.world t) values h

  -- what is met there is met here
  pub now_here : (old other : Option AbsState) (t : Bits) → AgreeBefore o.idle other old → AgreeBeside o.idle (seen t) (reading c t) → now_met old (reading c t) ≡ true →
      (d : Demanded) → Has c.problem.now d → IsOther (o.determined ++ o.idle) d → is_met c.problem other (seen t) d ≡ true
  now_here old other t before agree met d h e =
      ok.are_unread.demands d (Has-left c.problem.before h) (none_right (λ x. defines x d) o.determined o.idle e) other old (seen t) (reading c t) before agree
      ∙ all-each (is_met c.problem old (reading c t)) met h

  pub before_here : (old other : Option AbsState) (t : Bits) → AgreeBefore o.idle other old → AgreeBeside o.idle (seen t) (reading c t) → before_met old (reading c t) ≡ true →
      (d : Demanded) → Has c.problem.before d → IsOther o.idle d → is_met c.problem other (seen t) d ≡ true
  before_here old other t before agree met d h e =
      ok.are_unread.demands d (Has-right c.problem.now h) e other old (seen t) (reading c t) before agree
      ∙ all-each (is_met c.problem old (reading c t)) met h

  pub inductive_is_invariant : (set : Function) → IsInductive (lists_over c o) set → IsInvariant c (λ t. set (at (gathered o t)) && is_completed c o t)
  inductive_is_invariant set i = record {
    starts = λ t values now before.
        let agree = agrees None t now in
        and_both
        (i.starts (gathered o t) (
          first_from c is o (gathered o t) (have_values t values) (now_here None None t tt agree now),
          before_first_from c is o (gathered o t) (before_here None None t tt agree before),
        ))
        (completed t agree);
    closed = λ t u h values now before.
        let old = completed_agrees t (right_of (set (at (gathered o t))) (is_completed c o t) h) in
        let agree = agrees (Some (reading c t)) u now in
        and_both
        (i.closed (gathered o t) (gathered o u) (left_of (set (at (gathered o t))) (is_completed c o t) h) (
          step_from c is o (gathered o t) (gathered o u) (have_values u values) (now_here (Some (reading c t)) (Some (seen t)) u old agree now),
          before_step_from c is o (gathered o t) (gathered o u) (before_here (Some (reading c t)) (Some (seen t)) u old agree before),
        ))
        (completed u agree);
    safe_first = λ t values now broken.
        let agree = agrees None t now in
        i.safe_first (gathered o t) (first_from c is o (gathered o t) (have_values t values) (now_here None None t tt agree now))
        (broken_first_is c is o (gathered o t) ∙ (ok.are_unread.broken None None (seen t) (reading c t) tt agree ∙ broken));
    safe_step = λ t u h values now broken.
        let old = completed_agrees t (right_of (set (at (gathered o t))) (is_completed c o t) h) in
        let agree = agrees (Some (reading c t)) u now in
        i.safe_step (gathered o t) (gathered o u) (left_of (set (at (gathered o t))) (is_completed c o t) h)
        (step_from c is o (gathered o t) (gathered o u) (have_values u values) (now_here (Some (reading c t)) (Some (seen t)) u old agree now))
        (broken_step_is c is o (gathered o t) (gathered o u) ∙ (ok.are_unread.broken (Some (seen t)) (Some (reading c t)) (seen u) (reading c u) old agree ∙ broken));
  }
