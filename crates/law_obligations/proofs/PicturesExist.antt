-- A state has a picture, where the kept elements lie at numbers, constants and classes.
use Rattle.std.proofs.Common.{◌≡◌, ℕ, List, [], ◌∷◌, map, Bool, true, false, refl, sym, ap, subst, ◌∙◌, Option, Some, None}
use Rattle.std.specs.List.{slice_get}
use Rattle.smv_core.specs.Values.{Name, Value, number}
use Rattle.smv_core.specs.FlatMeaning.{Numbered, FlatState, values_in}
use Rattle.smv_core.specs.declared.flat.Family.{Family}
use Rattle.smv_core.specs.declared.flat.Simple.{Simple as FlatSimple}
use Rattle.smv_core.specs.declared.abstract_type.AbsType.{AbsType}
use Rattle.law_obligations.specs.Sets.{Has}
use Rattle.law_obligations.specs.Places.{Place, named, world, named_in, is_among}
use Rattle.law_obligations.specs.May.{AbsState, Kept}
use Rattle.law_obligations.specs.Pictures.{Placing, placed, ArePlaced, AreOfTypes, IsState, IsPicture, AreNamedOf, KeepsNamed, IsAbsState}
use Rattle.law_obligations.proofs.Same.{Has-is_among, is_among-Has}

module _ (n : Numbered) (types : Name → AbsType) (spots : Placing) (facts : ArePlaced n (world n types) spots) where
  -- a value that lies at the place, if this is a class
  record Lies (t : FlatSimple) (p : Place) : Type 0 where
    value : Value
    of_type : Has (named_in (world n types) t) p → Has (values_in n t) value
    lies : Has (named_in (world n types) t) p → placed spots value ≡ p

  lies_at : (t : FlatSimple) (p : Place) → Lies t p
  lies_at t p = at (is_among (named_in (world n types) t) p) refl
    where
      clash : {b : Bool} → b ≡ true → b ≡ false → ⊥
      clash a b = cc

      at : (b : Bool) → is_among (named_in (world n types) t) p ≡ b → Lies t p
      at true e = let r = (facts t).class_has_value p (Has-is_among (named_in (world n types) t) p e) in record { value = r.0; of_type = λ h. r.1; lies = λ h. r.2 }
      at false e = record { value = number 0; of_type = λ h. absurd (clash (is_among-Has h) e); lies = λ h. absurd (clash (is_among-Has h) e) }

  values_at : List FlatSimple → List Place → List Value
  values_at [] ps = []
  values_at (t ∷ over) [] = []
  values_at (t ∷ over) (p ∷ ps) = (lies_at t p).value ∷ values_at over ps

  values_are : (over : List FlatSimple) (vs : List Value) → AreOfTypes n over vs → AreNamedOf (world n types) over (map (placed spots) vs) → values_at over (map (placed spots) vs) ≡ vs
  unfolding values_at
  values_are [] [] h k = refl
  values_are [] (v ∷ vs) h k = elim h [ ]
  values_are (t ∷ over) [] h k = refl
  values_are (t ∷ over) (v ∷ vs) h k =
      let l = lies_at t (placed spots v) in
      let is : l.value ≡ v = (facts t).class_has_one l.value v (l.of_type k.0) h.0 (subst (Has (named_in (world n types) t)) (sym (l.lies k.0)) k.0) (l.lies k.0) in
      ap (λ u. u ∷ values_at over (map (placed spots) vs)) is ∙ ap (λ us. v ∷ us) (values_are over vs h.1 k.1)

  picture_in : FlatState → ℕ → Option Family → List Place → Place
  picture_in s family None ps = named (number 0)
  picture_in s family (Some f) ps = placed spots (s family (values_at f.over ps))

  pub pictured : (kept : Kept) → KeepsNamed (world n types) kept → (s : FlatState) → (a : AbsState) × IsPicture n spots kept s a
  unfolding picture_in
  pictured kept keeps_named s = (
    λ family ps. picture_in s family (slice_get n.families family) ps,
    λ family f e vs h k. rw e (ap (λ us. placed spots (s family us)) (values_are f.over vs h (keeps_named family f e (map (placed spots) vs) k))),
  )

  -- the values of classes are of the types of these
  values_typed : (over : List FlatSimple) (ps : List Place) → AreNamedOf (world n types) over ps → AreOfTypes n over (values_at over ps)
  unfolding values_at
  values_typed [] [] h = tt
  values_typed [] (p ∷ ps) h = elim h [ ]
  values_typed (t ∷ over) [] h = tt
  values_typed (t ∷ over) (p ∷ ps) h = ((lies_at t p).of_type h.0, values_typed over ps h.1)

  only_kept : Bool → Place → Place
  only_kept true q = q
  only_kept false q = named (number 0)

  -- and one that is an abstract state
  pub state_pictured : (kept : Kept) → KeepsNamed (world n types) kept → (s : FlatState) → IsState n s → (a : AbsState) × IsPicture n spots kept s a × IsAbsState (world n types) kept a
  unfolding picture_in only_kept
  state_pictured kept keeps_named s is_state = (
    λ family ps. only_kept (kept family ps) (picture_in s family (slice_get n.families family) ps),
    λ family f e vs h k. rw (k, e) (ap (λ us. placed spots (s family us)) (values_are f.over vs h (keeps_named family f e (map (placed spots) vs) k))),
    record {
      is_somewhere = λ family f e ps k. rw (k, e) ((facts f.value).is_somewhere (s family (values_at f.over ps)) (is_state family f e (values_at f.over ps) (values_typed f.over ps (keeps_named family f e ps k))));
      is_unread = λ family ps k. rw k refl;
    },
  )
