-- Each violating path of the problem of an instance shows a run that breaks the instance.
use Rattle.std.proofs.Common.{◌≡◌, ℕ, List, [], ◌∷◌, map, length, Bool, true, false, not, refl, sym, ap, subst, ◌∙◌, inl, inr, Option, Some, None, option_to_list}
use Rattle.std.specs.List.{slice_get, list_all, AllZip}
use Rattle.smv_core.specs.Values.{Value, number, Sizes, is_in, numbers_from}
use Rattle.smv_core.specs.FlatMeaning.{FlatState, values_in, flat_allowed}
use Rattle.smv_core.specs.declared.flat.Family.{Family}
use Rattle.smv_core.specs.declared.flat.Def.{Def}
use Rattle.smv_core.specs.declared.flat.Design.{Design}
use Rattle.smv_core.specs.declared.flat.Unit.{Unit as DesignUnit}
use Rattle.law_obligations.specs.Sets.{Has, first, later}
use Rattle.law_obligations.specs.Places.{Place, named}
use Rattle.law_obligations.specs.May.{AbsState}
use Rattle.law_obligations.specs.Pictures.{IsAbsState}
use Rattle.law_obligations.specs.Circular.{always, is_violating_after}
use Rattle.law_obligations.specs.Obligations.{defined, is_met, is_broken, obligation}
use Rattle.law_obligations.specs.Soundness.{map_of, over_of, params_of, values_over, values_of_family, is_held, meets_base, IsTyped}
use Rattle.law_obligations.specs.Outlines.{base_of, bases, unit_in}
use Rattle.law_obligations.specs.Cones.{AbsElement, element}
use Rattle.law_obligations.proofs.Members.{Has-map, Has-from_map, Has-flat_map, all-each, all-holds}
use Rattle.law_obligations.proofs.OneOfEach.{Has-from_flat_map, get_Has}
use Rattle.law_obligations.proofs.Same.{is_in-Has}
use Rattle.law_obligations.proofs.Lookups.{Has-option}
use Rattle.law_obligations.proofs.OutlineFacts.{IsBase, base-is}
use Rattle.law_exact.specs.Exact.{Shows, ShowsBefore}
use Rattle.law_exact.proofs.Outcomes.{places_are}
use Rattle.law_concrete.specs.Concrete.{sized, base_demands}
use Rattle.law_concrete.specs.Runs.{at_last, Breaks, IsExact}
use Rattle.law_sound_texts.specs.Extension.{IsTypedBefore, IsChosen, ElementsCanBeChosen}
use Rattle.law_concrete.specs.Laws.{Violates, AreShown}
use Rattle.law_concrete.proofs.Cones.{kept-cone, element-family}
use Rattle.law_concrete.proofs.Exactly.{n, w, cone, K, p, are_params, unit_there, met-held, broken-held}
use Rattle.law_concrete.proofs.Shown.{unnamed}
use Rattle.law_lists.proofs.Booleans.{and_both, left_of, right_of}
use Rattle.std.proofs.lemmas.Bool.{cases_Bool}

-- a base definition is that of some family
bases-of : (d : Design) (def : Def) → Has (bases d) def → (family : ℕ) × (base_of d family ≡ Some def)
bases-of d def k = let r = Has-from_flat_map (λ family. option_to_list (base_of d family)) (numbers_from 0 (length d.families)) k in (r.0, Has-option (base_of d r.0) r.2)

-- some value of a list
abbrev value_or : List Value → Value
value_or [] = number 0
value_or (v ∷ vs) = v

value_or-Has : (vs : List Value) (v : Value) → Has vs v → Has vs (value_or vs)
value_or-Has [] v h = elim h [ ]
value_or-Has (u ∷ vs) v h = first

module _ (d : Design) (sizes : Sizes) (exact : IsExact d sizes) (unit : DesignUnit) (values : List Value) (are : Has (values_over (sized d sizes) (params_of (sized d sizes) (unit_in d unit))) values)
    (choose : ElementsCanBeChosen d) where
  abbrev kept_at : ℕ → List Place → Bool
  kept_at family ps = K d sizes exact unit values are family ps

  -- the elements that are not kept are to be chosen
  abbrev chosen : ℕ → List Value → Bool
  chosen family vs = not (kept_at family (map named vs))

  -- a state that an abstract state shows: elsewhere some value
  abbrev state_by : Bool → Place → List Value → Value
  state_by true q vals = unnamed q
  state_by false q vals = value_or vals

  abbrev state_of : AbsState → FlatState
  state_of a family vs = state_by (kept_at family (map named vs)) (a family (map named vs)) (values_of_family (n d sizes exact unit values are) (slice_get d.families family))

  module _ (a : AbsState) (is_state : IsAbsState (w d sizes exact unit values are) (K d sizes exact unit values are) a) where
    here : (family : ℕ) (f : Family) → slice_get d.families family ≡ Some f → (vs : List Value) → kept_at family (map named vs) ≡ true → (v : Value) × Has (values_in (n d sizes exact unit values are) f.value) v × (a family (map named vs) ≡ named v)
    here family f e vs k = Has-from_map named (values_in (n d sizes exact unit values are) f.value) (subst (λ qs. Has qs (a family (map named vs))) (places_are (n d sizes exact unit values are) f.value) (is_state.is_somewhere family f e (map named vs) k))

    state-typed : IsTyped (n d sizes exact unit values are) (state_of a)
    state-typed family f e vs m = at (kept_at family (map named vs)) refl
      where
        at : (b : Bool) → kept_at family (map named vs) ≡ b → Has (values_in (n d sizes exact unit values are) f.value) (state_by b (a family (map named vs)) (values_of_family (n d sizes exact unit values are) (slice_get d.families family)))
        at true k = let v = here family f e vs k in subst (λ q. Has (values_in (n d sizes exact unit values are) f.value) (unnamed q)) (sym v.2) v.1
        at false k =
            let v = exact.filled f (get_Has d.families family f e) in
            subst (λ o. Has (values_in (n d sizes exact unit values are) f.value) (value_or (values_of_family (n d sizes exact unit values are) o))) (sym e) (value_or-Has (values_in (n d sizes exact unit values are) f.value) v.0 v.1)

    -- where a kept element is of a family of the design
    family-there : (family : ℕ) (vs : List Value) → kept_at family (map named vs) ≡ true → (f : Family) × (slice_get d.families family ≡ Some f)
    family-there family vs k = element-family d sizes unit values (are_params d sizes exact unit values are) (unit_there d sizes exact unit values are) family (map named vs)
        (kept-cone d sizes unit values (are_params d sizes exact unit values are) (unit_there d sizes exact unit values are) family (map named vs) k)

    module _ (before : Option FlatState) (t : FlatState) (is_chosen : IsChosen d sizes chosen before (state_of a) t) where
      shows : Shows (K d sizes exact unit values are) a t
      shows family vs k =
          let f = family-there family vs k in
          let v = here family f.0 f.1 vs k in
          let same : t family vs ≡ state_of a family vs = is_chosen.agrees family vs (ap not k) in
          v.2 ∙ ap named (sym (same ∙ (ap (λ b. state_by b (a family (map named vs)) (values_of_family (n d sizes exact unit values are) (slice_get d.families family))) k ∙ ap unnamed v.2)))

      module _ (old : Option AbsState) (h : ShowsBefore (K d sizes exact unit values are) old before) (met : list_all (is_met (p d sizes exact unit values are) old a) (base_demands d sizes (cone d sizes exact unit values are)) ≡ true) where
        base-held : (family : ℕ) (def : Def) → base_of d family ≡ Some def → (vs : List Value) → Has (values_over (n d sizes exact unit values are) (params_of (n d sizes exact unit values are) (map_of def))) vs →
            is_held (n d sizes exact unit values are) (map_of def) vs before t ≡ true
        base-held family def e vs m = elim (cases_Bool (kept_at family (map named vs))) [ inl k ↦ where_kept k | inr k ↦ where_chosen k ]
          where
            b : IsBase d family def
            b = base-is d family def e

            where_kept : kept_at family (map named vs) ≡ true → is_held (n d sizes exact unit values are) (map_of def) vs before t ≡ true
            where_kept k =
                let x : Has (cone d sizes exact unit values are) (element family (map named vs)) = kept-cone d sizes unit values (are_params d sizes exact unit values are) (unit_there d sizes exact unit values are) family (map named vs) k in
                let demanded : Has (base_demands d sizes (cone d sizes exact unit values are)) (defined def (map named vs)) =
                Has-flat_map (λ (x : AbsElement). map (λ def. defined def x.indexes) (option_to_list (base_of d x.family))) x (Has-map (λ def. defined def (map named vs)) (subst (λ o. Has (option_to_list o) def) (sym e) first)) in
                sym (met-held d sizes exact unit values are t a shows old before h family vs def e k) ∙ all-each (is_met (p d sizes exact unit values are) old a) met demanded

            where_chosen : kept_at family (map named vs) ≡ false → is_held (n d sizes exact unit values are) (map_of def) vs before t ≡ true
            where_chosen k =
                let of : Has (values_over (n d sizes exact unit values are) b.its_family.over) vs = subst (λ o. Has (values_over (n d sizes exact unit values are) (over_of o)) vs) (subst (λ k. slice_get d.families k ≡ Some b.its_family) (sym b.is_its) b.is_there) m in
                subst (λ k. is_held_at k ≡ true) (sym b.is_its) (is_in-Has (is_chosen.allows family b.its_family b.is_there def e vs of (ap not k)))
              where
                is_held_at : ℕ → Bool
                is_held_at family = is_in (flat_allowed (n d sizes exact unit values are) def (record { family = family; indexes = vs }) (values_of_family (n d sizes exact unit values are) (slice_get d.families family)) before t) (t family vs)

        bases-met : meets_base (n d sizes exact unit values are) (bases d) before t ≡ true
        bases-met = all-holds (λ (def : Def). list_all (λ vs. is_held (n d sizes exact unit values are) (map_of def) vs before t) (values_over (n d sizes exact unit values are) (params_of (n d sizes exact unit values are) (map_of def)))) (bases d)
            (λ def k. let r = bases-of d def k in all-holds (λ vs. is_held (n d sizes exact unit values are) (map_of def) vs before t) (values_over (n d sizes exact unit values are) (params_of (n d sizes exact unit values are) (map_of def))) (λ vs m. base-held r.0 def r.1 vs m))

  -- the run, state by state
  abbrev Runs : Option FlatState → List AbsState → Type 0
  Runs before path = (run : List FlatState) × AllZip (λ a s. Shows (K d sizes exact unit values are) a s) path run × ((s : FlatState) → Has run s → IsTyped (n d sizes exact unit values are) s)
      × (always (meets_base (n d sizes exact unit values are) (bases d)) before run ≡ true)
      × (at_last (λ before now. not (is_held (n d sizes exact unit values are) (unit_in d unit) values before now)) before run ≡ true)

  one-typed : (t : FlatState) (run : List FlatState) → IsTyped (n d sizes exact unit values are) t → ((s : FlatState) → Has run s → IsTyped (n d sizes exact unit values are) s) → (s : FlatState) → Has (t ∷ run) s → IsTyped (n d sizes exact unit values are) s
  one-typed t run p q _ first = p
  one-typed t run p q s (later k) = q s k

  joined : (before : Option FlatState) (a : AbsState) (path : List AbsState) (t : FlatState) → Shows (K d sizes exact unit values are) a t → IsTyped (n d sizes exact unit values are) t → meets_base (n d sizes exact unit values are) (bases d) before t ≡ true →
      (b : AbsState) (more : List AbsState) → path ≡ b ∷ more → Runs (Some t) path → Runs before (a ∷ path)
  joined before a path t sh typed base b more e ([], shown, each, keeps, fails) = absurd (cc (fails))
  joined before a path t sh typed base b more e (s ∷ run, shown, each, keeps, fails) = (t ∷ s ∷ run, (sh, shown), one-typed t (s ∷ run) typed each, and_both base keeps, fails)

  goes : (old : Option AbsState) (before : Option FlatState) → ShowsBefore (K d sizes exact unit values are) old before → IsTypedBefore (sized d sizes) before → (path : List AbsState) →
      ((a : AbsState) → Has path a → IsAbsState (w d sizes exact unit values are) (K d sizes exact unit values are) a) → is_violating_after (obligation (p d sizes exact unit values are)) old path ≡ true → Runs before path
  goes old before h typed [] states e = absurd (cc (e))
  goes old before h typed (a ∷ []) states e =
      let is_state = states a first in
      let t = choose sizes chosen before typed (state_of a) (state-typed a is_state) in
      let now = left_of (list_all (is_met (p d sizes exact unit values are) old a) (base_demands d sizes (cone d sizes exact unit values are))) (is_broken (p d sizes exact unit values are) old a (p d sizes exact unit values are).target) e in
      let broken = right_of (list_all (is_met (p d sizes exact unit values are) old a) (base_demands d sizes (cone d sizes exact unit values are))) (is_broken (p d sizes exact unit values are) old a (p d sizes exact unit values are).target) e in
      let sh = shows a is_state before t.0 t.1 in (
        t.0 ∷ [],
        (sh, tt),
        one-typed t.0 [] t.1.is_typed (λ s k. elim k [ ]),
        and_both (bases-met a is_state before t.0 t.1 old h now) refl,
        sym (broken-held d sizes exact unit values are t.0 a sh old before h t.1.is_typed) ∙ broken,
      )
  goes old before h typed (a ∷ b ∷ path) states e =
      let is_state = states a first in
      let t = choose sizes chosen before typed (state_of a) (state-typed a is_state) in
      let later_on = is_violating_after (obligation (p d sizes exact unit values are)) (Some a) (b ∷ path) in
      let now = left_of (list_all (is_met (p d sizes exact unit values are) old a) (base_demands d sizes (cone d sizes exact unit values are))) later_on e in
      let rest = right_of (list_all (is_met (p d sizes exact unit values are) old a) (base_demands d sizes (cone d sizes exact unit values are))) later_on e in
      let sh = shows a is_state before t.0 t.1 in
      let r = goes (Some a) (Some t.0) sh t.1.is_typed (b ∷ path) (λ c k. states c (later k)) rest in
      joined before a (b ∷ path) t.0 sh t.1.is_typed (bases-met a is_state before t.0 t.1 old h now) b path refl r

  pub found : (path : List AbsState) → Violates d sizes unit values path → (run : List FlatState) × AreShown d sizes unit values path run × Breaks d sizes unit values run
  found path v =
      let r = goes None None tt tt path v.are_states v.is_violating in
      (r.0, r.1, record { is_run = record { are_typed = r.2; keeps_base = r.3 }; fails = r.4 })
