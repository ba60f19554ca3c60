-- What holds of a well-formed case where less than it keeps is kept, and of the states in which some of its elements are worked out.
use Rattle.std.proofs.Common.{◌≡◌, ℕ, ◌<◌, List, [], ◌∷◌, length, Option, Some, None, Bool, true, false, not, ◌||◌, inl, inr, sym, ap, subst, ◌∙◌, arith}
use Rattle.std.proofs.lemmas.Bool.{cases_Bool}
use Rattle.std.specs.List.{slice_get, list_any}
use Rattle.law_lists.proofs.Booleans.{left_of}
use Rattle.smv_core.specs.declared.flat.Family.{Family}
use Rattle.law_obligations.specs.Sets.{Has, first}
use Rattle.law_obligations.specs.Places.{Place, same_place, is_among, places_in}
use Rattle.law_obligations.specs.Demands.{places_of_family}
use Rattle.law_obligations.specs.May.{AbsState, Kept, may}
use Rattle.law_obligations.specs.Pictures.{AreNamedOf, KeepsNamed}
use Rattle.law_obligations.specs.Soundness.{over_of}
use Rattle.law_obligations.specs.Cones.{AbsElement, element, same_element}
use Rattle.law_obligations.specs.Bits.{Bits}
use Rattle.law_obligations.specs.Readings.{PosedCase, values_in, values_of, reading}
use Rattle.law_obligations.proofs.ConeFacts.{same_element-itself, same_element-family, same_element-indexes}
use Rattle.law_obligations.proofs.Filled.{Filled, may_filled, there}
use Rattle.law_obligations.proofs.Members.{Has-left, any-found, any-some}
use Rattle.law_obligations.proofs.OneOfEach.{get_Has}
use Rattle.law_obligations.proofs.ReadBack.{reading_is_state}
use Rattle.law_obligations.proofs.Same.{same_place-itself}
use Rattle.law_arrangements.specs.Arrangements.{put, spread, IsState, view}
use Rattle.law_arrangements.proofs.Views.{all_found}
use Rattle.law_reads.specs.Reading as read
use Rattle.law_wires.specs.Tries.{trying, keeping, IsTry}
use Rattle.law_wires.proofs.Put.{put_other}
use Rattle.bdd_codes.specs.Codes.{bits_at}
use Rattle.smv_problem.specs.WellFormed.{IsWellFormed}
use Rattle.smv_cells.specs.Seen.{IsView}
use Rattle.smv_walks.specs.Demands.{HaveValues}
use Rattle.smv_wires.specs.Wired.{kept_beside, kept_with, state_beside}

member_of : {X : Type 0} (xs : List X) → 0 < length xs → Filled xs
member_of [] l = absurd (omega arith)
member_of (x ∷ xs) l = (x, first)

right_false : (a b : Bool) → a || b ≡ true → b ≡ false → a ≡ true
right_false true b e f = e
right_false false b e f = absurd (cc)

module _ (c : PosedCase) (well : IsWellFormed c) where
  -- a kept element is one of the case
  element_of : (family : ℕ) (ps : List Place) → c.problem.kept family ps ≡ true → (x : AbsElement) × Has c.elements x × (same_element (element family ps) x ≡ true)
  element_of family ps k = any-some (same_element (element family ps)) c.elements (sym (ap (λ (keeps : ℕ → List Place → Bool). keeps family ps) well.is_case.are_kept) ∙ k)

  -- and its elements are kept
  pub kept_element : (x : AbsElement) → Has c.elements x → c.problem.kept x.family x.indexes ≡ true
  kept_element x h = ap (λ (keeps : ℕ → List Place → Bool). keeps x.family x.indexes) well.is_case.are_kept ∙ any-found (same_element (element x.family x.indexes)) h (same_element-itself x)

  pub keeps_named : KeepsNamed c.problem.world c.problem.kept
  keeps_named family f there ps k =
      let r = element_of family ps k in
      let same : slice_get c.problem.world.classes.families r.0.family ≡ Some f = ap (slice_get c.problem.world.classes.families) (sym (same_element-family (element family ps) r.0 r.2)) ∙ there in
      subst (AreNamedOf c.problem.world f.over) (sym (same_element-indexes (element family ps) r.0 r.2)) (subst (λ (o : Option Family). AreNamedOf c.problem.world (over_of o) r.0.indexes) same (well.indexes r.0 r.1))

  pub have_values : read.HaveValues c.problem.world
  have_values family f there = member_of (places_in c.problem.world f.value) (well.have_values f (get_Has c.problem.world.classes.families family f there))

  pub filled_view : (kept : Kept) (state : (ℕ → Bool) → AbsState) → IsView (record { world = c.problem.world; kept = kept; state = state })
  filled_view kept state = record { filled = λ a e b. there (may c.problem.world kept (state a) e b) (may_filled c.problem.world kept (state a) have_values e b) }

  -- a value of a family is among its places
  among : (kept : Kept) (family : ℕ) (p : Place) → Has (values_in c.problem.world (slice_get c.problem.world.classes.families family)) p → is_among (places_of_family c.problem.world kept (slice_get c.problem.world.classes.families family)) p ≡ true
  among kept family p h = by (slice_get c.problem.world.classes.families family) h
    where
      by : (o : Option Family) → Has (values_in c.problem.world o) p → is_among (places_of_family c.problem.world kept o) p ≡ true
      by None h = elim h [ ]
      by (Some f) h = any-found (same_place p) h (same_place-itself p)

  -- a state has a value for each of its elements
  pub state_among : (a : AbsState) → IsState c a → (x : AbsElement) → Has c.elements x → is_among (places_of_family c.problem.world c.problem.kept (slice_get c.problem.world.classes.families x.family)) (a x.family x.indexes) ≡ true
  state_among a is x h =
      let f = well.is_case.have_values x h in
      among c.problem.kept x.family (a x.family x.indexes) (subst (λ (o : Option Family). Has (values_in c.problem.world o) (a x.family x.indexes)) (sym f.1) (is.is_somewhere x.family f.0 f.1 x.indexes (kept_element x h)))

  module _ (order : List ℕ) (done : List AbsElement) (x : AbsElement) (left : List AbsElement) (try : IsTry c order done x left) where
    is_state : (s : Bits) → IsState c (view c (trying order done (x ∷ left)) s)
    is_state s = (all_found c well.is_case done (x ∷ left) try.are_determined try.are_apart (λ y h. try.are_elements y (Has-left (x ∷ left) h)) (reading c (spread order s)) (reading_is_state c well.is_case (spread order s))).is_state

    -- its own value, and what the others are
    pub values_with : (next : Bool) (v : Place) → Has (values_of c.problem.world x) v → HaveValues (keeping c (kept_with c x left)) (λ a. put x v (state_beside c order done (x ∷ left) next a))
    values_with next v h a family ps k = among (kept_with c x left) family (put x v (state_beside c order done (x ∷ left) next a) family ps) (elim (cases_Bool (same_element (element family ps) x)) [
      | inl e ↦
          subst (λ (n : ℕ). Has (values_in c.problem.world (slice_get c.problem.world.classes.families n)) (put x v (state_beside c order done (x ∷ left) next a) family ps)) (sym (same_element-family (element family ps) x e)) (own e)
      | inr e ↦
          let r = element_of family ps (left_of (c.problem.kept family ps) (not (list_any (same_element (element family ps)) (x ∷ left))) (right_false (kept_beside c (x ∷ left) family ps) (same_element (element family ps) x) k e)) in
          let f = well.is_case.have_values r.0 r.1 in
          let same : slice_get c.problem.world.classes.families family ≡ Some f.0 = ap (slice_get c.problem.world.classes.families) (same_element-family (element family ps) r.0 r.2) ∙ f.1 in
          subst (λ (o : Option Family). Has (values_in c.problem.world o) (put x v (state_beside c order done (x ∷ left) next a) family ps)) (sym same)
          (subst (Has (places_in c.problem.world f.0.value)) (sym (put_other x v (state_beside c order done (x ∷ left) next a) family ps e))
          ((is_state (bits_at next a)).is_somewhere family f.0 same ps (left_of (c.problem.kept family ps) (not (list_any (same_element (element family ps)) (x ∷ left))) (right_false (kept_beside c (x ∷ left) family ps) (same_element (element family ps) x) k e))))
    ])
      where
        own : same_element (element family ps) x ≡ true → Has (values_of c.problem.world x) (put x v (state_beside c order done (x ∷ left) next a) family ps)
        own e = rw e h
