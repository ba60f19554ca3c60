-- Assignments are read as abstract states, and each abstract state is read from one.
use Rattle.std.proofs.Common.{◌≡◌, ℕ, ◌+◌, ◌-◌, ◌^◌, ◌<◌, ◌≤◌, List, [], ◌∷◌, length, find, Bool, true, false, cond, ◌||◌, refl, sym, ap, subst, ◌∙◌, inl, inr, Option, Some, None, arith, nat_lt}
use Rattle.std.specs.List.{slice_get, list_any}
use Rattle.std.proofs.lemmas.Bool.Decides.{nat_tests}
use Rattle.std.proofs.lemmas.Bool.{cases_Bool}
use Rattle.smv_core.specs.declared.flat.Family.{Family}
use Rattle.law_obligations.specs.Sets.{Has, first, later}
use Rattle.law_obligations.specs.Places.{Place, World, places_in}
use Rattle.law_obligations.specs.May.{AbsState}
use Rattle.law_obligations.specs.Pictures.{IsAbsState}
use Rattle.law_obligations.proofs.Members.{all-holds, any-found}
use Rattle.law_obligations.specs.Cones.{AbsElement, element, same_element, kept}
use Rattle.law_obligations.proofs.Lookups.{find-some, none_or_some}
use Rattle.law_obligations.proofs.ConeFacts.{same_element-itself, same_element-family, same_element-indexes}
use Rattle.law_obligations.specs.Bits.{Bits}
use Rattle.law_obligations.specs.Codes.{code_from, value_of_code}
use Rattle.law_obligations.specs.Readings.{PosedCase, IsCase, Slot, values_in, values_of, bits_of, bits_of_all, slots_from, code_of, is_value, read_at, slots, state_bits, are_values, reading}
use Rattle.law_obligations.proofs.Codes.{bits_are, spell, code_spelled, code_agree, value_Has, Has_value}

module _ (w : World) where
  pub slot_element : (b : ℕ) (xs : List AbsElement) (slot : Slot) → Has (slots_from w b xs) slot → Has xs slot.element
  slot_element b [] slot h = elim h [ ]
  slot_element b (x ∷ xs) _ first = first
  slot_element b (x ∷ xs) slot (later h) = later (slot_element (b + bits_of w x) xs slot h)

  pub slot_of : (b : ℕ) (xs : List AbsElement) (x : AbsElement) → Has xs x → (slot : Slot) × Has (slots_from w b xs) slot × (slot.element ≡ x)
  slot_of b [] x h = elim h [ ]
  slot_of b (y ∷ xs) _ first = (record { element = y; bit = b }, first, refl)
  slot_of b (y ∷ xs) x (later h) = let r = slot_of (b + bits_of w y) xs x h in (r.0, later r.1, r.2)

  pub slot_within : (b : ℕ) (xs : List AbsElement) (slot : Slot) → Has (slots_from w b xs) slot → (b ≤ slot.bit) × (slot.bit + bits_of w slot.element ≤ b + bits_of_all w xs)
  slot_within b [] slot h = elim h [ ]
  slot_within b (x ∷ xs) _ first = (omega arith, omega arith)
  slot_within b (x ∷ xs) slot (later h) = let r = slot_within (b + bits_of w x) xs slot h in let lo = r.0 in let hi = r.1 in (omega arith, omega arith)

  pub found : (t : AbsElement → Bool) (b : ℕ) (xs : List AbsElement) → list_any t xs ≡ true → (slot : Slot) × (find (λ slot. t slot.element) (slots_from w b xs) ≡ Some slot)
  found t b [] e = absurd (cc)
  found t b (x ∷ xs) e = at (t x) e (λ k. found t (b + bits_of w x) xs k)
    where
      at : (y : Bool) → (y || list_any t xs) ≡ true → (list_any t xs ≡ true → (slot : Slot) × (find (λ slot. t slot.element) (slots_from w (b + bits_of w x) xs) ≡ Some slot)) →
          (slot : Slot) × (cond y (Some (record { element = x; bit = b })) (find (λ (slot : Slot). t slot.element) (slots_from w (b + bits_of w x) xs)) ≡ Some slot)
      at true e goes = (record { element = x; bit = b }, refl)
      at false e goes = goes e

  pub not_found : (t : AbsElement → Bool) (b : ℕ) (xs : List AbsElement) → list_any t xs ≡ false → find (λ (slot : Slot). t slot.element) (slots_from w b xs) ≡ None
  not_found t b [] e = refl
  not_found t b (x ∷ xs) e = at (t x) e (λ k. not_found t (b + bits_of w x) xs k)
    where
      at : (y : Bool) → (y || list_any t xs) ≡ false → (list_any t xs ≡ false → find (λ (slot : Slot). t slot.element) (slots_from w (b + bits_of w x) xs) ≡ None) →
          cond y (Some (record { element = x; bit = b })) (find (λ (slot : Slot). t slot.element) (slots_from w (b + bits_of w x) xs)) ≡ None
      at true e goes = absurd (cc)
      at false e goes = goes e

  -- an assignment whose codes are those of these places
  record IsWritten (a : AbsState) (b : ℕ) (xs : List AbsElement) (s : Bits) : Type 0 where
    is_code : (slot : Slot) → Has (slots_from w b xs) slot → code_of w s slot < length (values_of w slot.element)
    is_place : (slot : Slot) → Has (slots_from w b xs) slot → value_of_code (values_of w slot.element) (code_of w s slot) ≡ a slot.element.family slot.element.indexes

  with_code : ℕ → ℕ → ℕ → Bits → Bits
  with_code b n k s v = cond (nat_lt v (b + n)) (spell n k (v - b)) (s v)

  with_own : (b n k : ℕ) (s : Bits) (i : ℕ) → i < n → with_code b n k s (b + i) ≡ spell n k i
  unfolding with_code
  with_own b n k s i lt = by_test (nat_lt (b + i) (b + n)) refl
    where
      by_test : (t : Bool) → nat_lt (b + i) (b + n) ≡ t → cond t (spell n k (b + i - b)) (s (b + i)) ≡ spell n k i
      by_test true e = ap (spell n k) (omega arith)
      by_test false e = absurd (let le : b + n ≤ b + i = grind (arith, nat_tests) in omega arith)

  with_others : (b n k : ℕ) (s : Bits) (v : ℕ) → b + n ≤ v → with_code b n k s v ≡ s v
  unfolding with_code
  with_others b n k s v le = by_test (nat_lt v (b + n)) refl
    where
      by_test : (t : Bool) → nat_lt v (b + n) ≡ t → cond t (spell n k (v - b)) (s v) ≡ s v
      by_test true e = absurd (let lt : v < b + n = grind (arith, nat_tests) in omega arith)
      by_test false e = refl

  write : (a : AbsState) (b : ℕ) (xs : List AbsElement) → ((x : AbsElement) → Has xs x → Has (values_of w x) (a x.family x.indexes)) → (s : Bits) × IsWritten a b xs s
  write a b [] are = ((λ _. false), record { is_code = λ slot h. elim h [ ]; is_place = λ slot h. elim h [ ] })
  write a b (x ∷ xs) are =
      let n : ℕ = bits_of w x in
      let more = write a (b + n) xs (λ y h. are y (later h)) in
      let code = Has_value (values_of w x) (a x.family x.indexes) (are x first) in
      let s : Bits = with_code b n code.0 more.0 in
      let enough = (bits_are (length (values_of w x))).enough in
      let lt = code.1 in
      let small : code.0 < 2 ^ n = omega arith in
      let own : code_from s b n ≡ code.0 = code_spelled s b n code.0 small (with_own b n code.0 more.0) in
      let others : (slot : Slot) → Has (slots_from w (b + n) xs) slot → code_of w s slot ≡ code_of w more.0 slot =
      λ slot h. code_agree s more.0 slot.bit (bits_of w slot.element) (λ v le less. with_others b n code.0 more.0 v (let lo = (slot_within (b + n) xs slot h).0 in omega arith)) in (
        s,
        record {
          is_code = λ slot h. at_code s n code.0 lt own others more.1 slot h;
          is_place = λ slot h. at_place s n code.0 code.2 own others more.1 slot h;
        },
      )
    where
      at_code : {r : Bits} (s : Bits) (n k : ℕ) → k < length (values_of w x) → code_from s b (bits_of w x) ≡ k →
          ((slot : Slot) → Has (slots_from w (b + bits_of w x) xs) slot → code_of w s slot ≡ code_of w r slot) → IsWritten a (b + bits_of w x) xs r →
          (slot : Slot) → Has (slots_from w b (x ∷ xs)) slot → code_of w s slot < length (values_of w slot.element)
      at_code s n k lt own others more _ first = subst (λ (c : ℕ). c < length (values_of w x)) (sym own) lt
      at_code s n k lt own others more slot (later h) = subst (λ (c : ℕ). c < length (values_of w slot.element)) (sym (others slot h)) (more.is_code slot h)

      at_place : {r : Bits} (s : Bits) (n k : ℕ) → value_of_code (values_of w x) k ≡ a x.family x.indexes → code_from s b (bits_of w x) ≡ k →
          ((slot : Slot) → Has (slots_from w (b + bits_of w x) xs) slot → code_of w s slot ≡ code_of w r slot) → IsWritten a (b + bits_of w x) xs r →
          (slot : Slot) → Has (slots_from w b (x ∷ xs)) slot → value_of_code (values_of w slot.element) (code_of w s slot) ≡ a slot.element.family slot.element.indexes
      at_place s n k e own others more _ first = ap (value_of_code (values_of w x)) own ∙ e
      at_place s n k e own others more slot (later h) = ap (value_of_code (values_of w slot.element)) (others slot h) ∙ more.is_place slot h

module _ (c : PosedCase) where
  w : World
  w = c.problem.world

  abbrev at_element : ℕ → List Place → Slot → Bool
  at_element family ps slot = same_element (element family ps) slot.element

  -- what is read where a slot is found, and where none is
  pub reads_slot : (s : Bits) (family : ℕ) (ps : List Place) (o : Option Slot) → find (at_element family ps) (slots c) ≡ o → reading c s family ps ≡ read_at c.problem.world s o
  unfolding reading
  reads_slot s family ps o e = ap (read_at c.problem.world s) e

  module _ (is : IsCase c) where
    -- the values of a kept element
    kept_values : (x : AbsElement) (family : ℕ) (f : Family) → Has c.elements x → family ≡ x.family → slice_get c.problem.world.classes.families family ≡ Some f →
        (values_of c.problem.world x ≡ places_in c.problem.world f.value) × (0 < length (values_of c.problem.world x))
    kept_values x family f h same e =
        let r = is.have_values x h in
        let at_x : slice_get c.problem.world.classes.families x.family ≡ Some f = subst (λ (k : ℕ). slice_get c.problem.world.classes.families k ≡ Some f) same e in
        (ap (values_in c.problem.world) at_x, subst (λ (places : List Place). 0 < length places) (sym (ap (values_in c.problem.world) r.1)) r.2)

    pub reading_is_state : (s : Bits) → IsAbsState c.problem.world c.problem.kept (reading c s)
    reading_is_state s = record {
      is_somewhere = λ family f e ps k.
          let any : list_any (same_element (element family ps)) c.elements ≡ true = sym (ap (λ (keeps : ℕ → List Place → Bool). keeps family ps) is.are_kept) ∙ k in
          let slot = found c.problem.world (same_element (element family ps)) 0 c.elements any in
          let there = find-some (at_element family ps) (slots c) slot.1 in
          let x = slot.0.element in
          let same : family ≡ x.family = same_element-family (element family ps) x there.1 in
          let values = kept_values x family f (slot_element c.problem.world 0 c.elements slot.0 there.0) same e in
          subst (Has (places_in c.problem.world f.value)) (sym (reads_slot s family ps (Some slot.0) slot.1))
          (subst (λ (places : List Place). Has places (value_of_code (values_of c.problem.world x) (code_of c.problem.world s slot.0))) values.0
          (value_Has (values_of c.problem.world x) (code_of c.problem.world s slot.0) values.1));
      is_unread = λ family ps k.
          let none : list_any (same_element (element family ps)) c.elements ≡ false = sym (ap (λ (keeps : ℕ → List Place → Bool). keeps family ps) is.are_kept) ∙ k in
          reads_slot s family ps None (not_found c.problem.world (same_element (element family ps)) 0 c.elements none);
    }

    pub state_is_read : (a : AbsState) → IsAbsState c.problem.world c.problem.kept a → (s : Bits) × (are_values c s ≡ true) × (reading c s ≡ a)
    unfolding are_values
    state_is_read a state =
        let written = write c.problem.world a 0 c.elements (λ x h.
        let r = is.have_values x h in
        subst (λ (places : List Place). Has places (a x.family x.indexes)) (sym (ap (values_in c.problem.world) r.1))
        (state.is_somewhere x.family r.0 r.1 x.indexes
        (ap (λ (keeps : ℕ → List Place → Bool). keeps x.family x.indexes) is.are_kept ∙ any-found (same_element (element x.family x.indexes)) h (same_element-itself x)))) in (
          written.0,
          all-holds (is_value c.problem.world written.0) (slots c) (λ slot h. let lt = written.1.is_code slot h in grind (arith, nat_tests)),
          λ i family ps. at_each written.0 written.1 family ps i,
        )
      where
        at_each : (s : Bits) → IsWritten c.problem.world a 0 c.elements s → (family : ℕ) (ps : List Place) → reading c s family ps ≡ a family ps
        at_each s written family ps = elim (cases_Bool (list_any (same_element (element family ps)) c.elements)) [
          | inl any ↦
              let slot = found c.problem.world (same_element (element family ps)) 0 c.elements any in
              let there = find-some (at_element family ps) (slots c) slot.1 in
              let x = slot.0.element in
              let same_family : family ≡ x.family = same_element-family (element family ps) x there.1 in
              let same_indexes : ps ≡ x.indexes = same_element-indexes (element family ps) x there.1 in
              reads_slot s family ps (Some slot.0) slot.1 ∙ written.is_place slot.0 there.0 ∙ ap (λ (k : ℕ). a k x.indexes) (sym same_family) ∙ ap (a family) (sym same_indexes)
          | inr none ↦ reads_slot s family ps None (not_found c.problem.world (same_element (element family ps)) 0 c.elements none)
              ∙ sym (state.is_unread family ps (ap (λ (keeps : ℕ → List Place → Bool). keeps family ps) is.are_kept ∙ none))
        ]

  -- what is read is that of the state bits
  pub reading_agree : (s t : Bits) → ((v : ℕ) → v < state_bits c → s v ≡ t v) → reading c s ≡ reading c t
  reading_agree s t same = λ i family ps. at_each family ps i
    where
      at_each : (family : ℕ) (ps : List Place) → reading c s family ps ≡ reading c t family ps
      at_each family ps = elim (none_or_some (find (at_element family ps) (slots c))) [
        | inl e ↦ reads_slot s family ps None e ∙ sym (reads_slot t family ps None e)
        | inr e ↦
            let there = find-some (at_element family ps) (slots c) e.1 in
            let within = (slot_within c.problem.world 0 c.elements e.0 there.0).1 in
            reads_slot s family ps (Some e.0) e.1
            ∙ ap (value_of_code (values_of c.problem.world e.0.element)) (code_agree s t e.0.bit (bits_of c.problem.world e.0.element) (λ v le lt. same v (omega arith)))
            ∙ sym (reads_slot t family ps (Some e.0) e.1)
      ]

  pub code_of_agree : (s t : Bits) → ((v : ℕ) → v < state_bits c → s v ≡ t v) → (slot : Slot) → Has (slots c) slot → is_value c.problem.world s slot ≡ is_value c.problem.world t slot
  code_of_agree s t same slot h =
      let within = (slot_within c.problem.world 0 c.elements slot h).1 in
      ap (λ (code : ℕ). nat_lt code (length (values_of c.problem.world slot.element))) (code_agree s t slot.bit (bits_of c.problem.world slot.element) (λ v le lt. same v (omega arith)))
