-- The states of a run, one after the other: elements get their values in the order in which definitions read one another, as the limit of stages.
use Rattle.std.proofs.Common.{◌≡◌, ℕ, zero, suc, ◌<◌, ◌≤◌, List, [], ◌∷◌, map, length, Option, Some, None, Bool, true, false, ◌&&◌, cond, refl, sym, ap, subst, ◌∙◌, ◌⊎◌, inl, inr, slice_get, unwrap_or, arith}
use Rattle.std.specs.List.{flat_map}
use Rattle.std.proofs.lemmas.Bool.{cases_Bool}
use Rattle.law_lists.proofs.Booleans.{right_of}
use Rattle.smv_core.specs.Values.{Value, Sizes}
use Rattle.smv_core.specs.Walk.{Walk}
use Rattle.smv_core.specs.FlatMeaning.{Numbered, FlatState, FlatElement, flat_result, is_concerned_by, flat_kept, flat_stepped, flat_allowed}
use Rattle.smv_core.specs.declared.flat.Family.{Family}
use Rattle.smv_core.specs.declared.flat.Cell.{Cell}
use Rattle.smv_core.specs.declared.flat.Def.{Def}
use Rattle.smv_core.specs.declared.flat.Design.{Design}
use Rattle.law_obligations.specs.Sets.{Has, first, later}
use Rattle.law_obligations.specs.Soundness.{at_sizes, values_of_family, IsTyped}
use Rattle.law_obligations.specs.Outlines.{names_of, base_of}
use Rattle.law_obligations.proofs.Members.{Has-left, Has-right, Has-map, Has-flat_map}
use Rattle.law_designs.specs.Reading.{Reference, Reading, readings}
use Rattle.law_designs.specs.Loops.{cells, cells_of, edges_of, undelayed}
use Rattle.law_sound_texts.specs.Extension.{HasWholeLeftSides, IsTypedBefore}
use Rattle.law_sound_texts.proofs.Agreeing.{MayBe, AgreeAt}
use Rattle.law_sound_texts.proofs.Results.{concerns, result_by, all_result, IsReading, reading_is, same_result, AreSome, IsSome, all_some, some_or_every, result_some, result_within, within_allowed}
use Rattle.law_sound_texts.proofs.Places.{cell_at, has_cell, AreOver, are_over, over_long, may_be, is_over, over-are, are-over, over-Has}
use Rattle.law_sound_texts.proofs.Faultless.{IsFaultless, Falls, IsBase, base_by, undelayed-assigned}

-- the first of some values
abbrev pick : List Value → Value → Value
pick [] v = v
pick (u ∷ us) v = u

pick-Has : (every vs : List Value) (v : Value) → AreSome every vs → Has vs (pick vs v)
pick-Has every [] v h = absurd (elim h.0.1 [ ])
pick-Has every (u ∷ us) v h = first

-- ---- what an element may be, by the assignments that may be its own

module _ (n : Numbered) (def : Def) (x : FlatElement) (every : List Value) where
  abbrev stepped_options : Option FlatState → FlatState → List Value
  stepped_options None now = unwrap_or (result_by (concerns x) n now x every def.init []) every
  stepped_options (Some old) now = unwrap_or (flat_result n old x every def.next []) (flat_kept n def x every old)

  abbrev options : Option FlatState → FlatState → List Value
  options before now = cond (is_concerned_by def.comb x) (unwrap_or (result_by (concerns x) n now x every def.comb []) every) (stepped_options before now)

  module _ (one : (v : Value) × Has every v) where
    plain_some : (s : FlatState) → IsSome every (flat_result n s x every def.next [])
    plain_some s = subst (IsSome every) (all_result n s x every def.next []) (result_some every one n s (λ is. true) x def.next [])

    cond_some : (b : Bool) (vs ws : List Value) → AreSome every vs → AreSome every ws → AreSome every (cond b vs ws)
    cond_some true vs ws p q = p
    cond_some false vs ws p q = q

    one_some : (v : Value) → Has every v → AreSome every (v ∷ [])
    one_some v h = ((v, first), λ w k. only w k)
      where
        only : (w : Value) → Has (v ∷ []) w → Has every w
        only _ first = h
        only w (later k) = elim k [ ]

    or_some : (w : Walk) (vs : List Value) → IsSome every w → AreSome every vs → AreSome every (unwrap_or w vs)
    or_some None vs p q = q
    or_some (Some ws) vs p q = p

    -- the state before gives the element a value of its type
    abbrev pub IsBefore : Option FlatState → Type 0
    IsBefore None = Unit {0}
    IsBefore (Some old) = Has every (old x.family x.indexes)

    stepped_some : (before : Option FlatState) (now : FlatState) → IsBefore before → AreSome every (stepped_options before now)
    stepped_some None now h = some_or_every every one (result_by (concerns x) n now x every def.init []) (result_some every one n now (concerns x) x def.init [])
    stepped_some (Some old) now h =
        or_some (flat_result n old x every def.next []) (flat_kept n def x every old) (plain_some old)
        (cond_some (is_concerned_by def.next x) (old x.family x.indexes ∷ []) every (one_some (old x.family x.indexes) h) (all_some every one))

    pub options_some : (before : Option FlatState) (now : FlatState) → IsBefore before → AreSome every (options before now)
    options_some before now h =
        cond_some (is_concerned_by def.comb x) (unwrap_or (result_by (concerns x) n now x every def.comb []) every) (stepped_options before now)
        (some_or_every every one (result_by (concerns x) n now x every def.comb []) (result_some every one n now (concerns x) x def.comb [])) (stepped_some before now h)

    stepped_within : (before : Option FlatState) (now : FlatState) (v : Value) → Has (stepped_options before now) v → Has (flat_stepped n def x every before now) v
    stepped_within None now v h =
        within_allowed every (result_by (concerns x) n now x every def.init []) (flat_result n now x every def.init []) (result_some every one n now (concerns x) x def.init []) (result_within every one n now x def.init []) v h
    stepped_within (Some old) now v h = h

    -- these are allowed
    pub options_within : (before : Option FlatState) (now : FlatState) (v : Value) → Has (options before now) v → Has (flat_allowed n def x every before now) v
    options_within before now v h = by_test (is_concerned_by def.comb x) h
      where
        by_test : (b : Bool) → Has (cond b (unwrap_or (result_by (concerns x) n now x every def.comb []) every) (stepped_options before now)) v → Has (cond b (unwrap_or (flat_result n now x every def.comb []) every) (flat_stepped n def x every before now)) v
        by_test true h =
            within_allowed every (result_by (concerns x) n now x every def.comb []) (flat_result n now x every def.comb []) (result_some every one n now (concerns x) x def.comb []) (result_within every one n now x def.comb []) v h
        by_test false h = stepped_within before now v h

-- ---- stages

module _ (d : Design) (sizes : Sizes) (among : ℕ → List Value → Bool) where
  abbrev pub n : Numbered
  n = at_sizes (names_of d) sizes

  abbrev is_element : Option Family → List Value → Bool
  is_element None vs = false
  is_element (Some f) vs = is_over n f.over vs

  -- an element of a family among those to be chosen
  abbrev pub is_chosen : ℕ → List Value → Bool
  is_chosen family vs = among family vs && is_element (slice_get d.families family) vs

  pub chosen-is : (family : ℕ) (f : Family) (vs : List Value) → among family vs ≡ true → slice_get d.families family ≡ Some f → AreOver n f.over vs → is_chosen family vs ≡ true
  chosen-is family f vs a there over = rw a (subst (λ o. is_element o vs ≡ true) (sym there) (are-over n f.over vs over))

  abbrev pub every_of : ℕ → List Value
  every_of family = values_of_family n (slice_get d.families family)

  abbrev element : ℕ → List Value → FlatElement
  element family vs = record { family = family; indexes = vs }

  -- its value by the base definition; without one it keeps its value
  abbrev valued : Option FlatState → FlatState → ℕ → List Value → Value → Option Def → Value
  valued before now family vs v None = v
  valued before now family vs v (Some def) = pick (options n def (element family vs) (every_of family) before now) v

  pub stage : Option FlatState → FlatState → ℕ → FlatState
  stage before s zero family vs = s family vs
  stage before s (suc k) family vs = cond (is_chosen family vs) (valued before (stage before s k) family vs (s family vs) (base_of d family)) (s family vs)

  stage-chosen : (before : Option FlatState) (s : FlatState) (k family : ℕ) (vs : List Value) → is_chosen family vs ≡ true → stage before s (suc k) family vs ≡ valued before (stage before s k) family vs (s family vs) (base_of d family)
  unfolding stage
  stage-chosen before s k family vs e = ap (λ b. cond b (valued before (stage before s k) family vs (s family vs) (base_of d family)) (s family vs)) e

  stage-other : (before : Option FlatState) (s : FlatState) (k family : ℕ) (vs : List Value) → is_chosen family vs ≡ false → stage before s k family vs ≡ s family vs
  unfolding stage
  stage-other before s zero family vs e = refl
  stage-other before s (suc k) family vs e = ap (λ b. cond b (valued before (stage before s k) family vs (s family vs) (base_of d family)) (s family vs)) e

  module _ (h : IsFaultless d) (whole : HasWholeLeftSides d) (rank : Cell → ℕ) (falls : Falls d rank) where
    abbrev height_of : Option Family → ℕ → List Value → ℕ
    height_of None family vs = 0
    height_of (Some f) family vs = rank (cell_at family f.over vs)

    abbrev height : ℕ → List Value → ℕ
    height family vs = height_of (slice_get d.families family) family vs

    -- two states agree on all elements but those to be chosen that do not stand below this height
    abbrev AgreeBelow : ℕ → FlatState → FlatState → Type 0
    AgreeBelow k t u = (family : ℕ) (vs : List Value) → (is_chosen family vs ≡ true → height family vs < k) → t family vs ≡ u family vs

    lower : (j k : ℕ) (t u : FlatState) → j ≤ k → AgreeBelow k t u → AgreeBelow j t u
    lower j k t u l a family vs below = a family vs (λ c. let m : height family vs < j = below c in omega (arith, l, m))

    -- what an assignment that concerns an element reads stands below it
    module _ (def : Def) (is_base : IsBase d def) (f : Family) (there : slice_get d.families def.family ≡ Some f) (vs : List Value) (over : AreOver n f.over vs) where
      reads_below : (a : Reading) → Has (undelayed def) a → IsReading def.family [] a → concerns (element def.family vs) a.left ≡ true →
          (r : Reference) → Has a.reads r → (g : Family) → slice_get d.families r.family ≡ Some g → (ws : List Value) → MayBe n g.over r.indexes ws → is_element (slice_get d.families r.family) ws ≡ true →
          height r.family ws < height def.family vs
      reads_below a m of c r i g known ws may is =
          let long : length ws ≡ length g.over = over_long n g.over ws (over-are n g.over ws (subst (λ o. is_element o ws ≡ true) known is)) in
          let to : Has (cells d r.family r.indexes) (cell_at r.family g.over ws) = subst (λ o. Has (cells_of o r.family r.indexes) (cell_at r.family g.over ws)) (sym known) (has_cell n g r.family r.indexes ws may long) in
          let own : MayBe n f.over a.left vs = may_be n f.over a.left vs over (whole def is_base.is_def_of f there a (undelayed-assigned def a m)) of.are_plain c in
          let mine : Has (cells d def.family a.left) (cell_at def.family f.over vs) = subst (λ o. Has (cells_of o def.family a.left) (cell_at def.family f.over vs)) (sym there) (has_cell n f def.family a.left vs own (over_long n f.over vs over)) in
          let from : Has (cells d a.family a.left) (cell_at def.family f.over vs) = subst (λ k. Has (cells d k a.left) (cell_at def.family f.over vs)) (sym of.is_of) mine in
          let edge : Has (edges_of d a) (cell_at def.family f.over vs, cell_at r.family g.over ws) =
          Has-flat_map (λ from. map (λ to. (from, to)) (flat_map (λ (r : Reference). cells d r.family r.indexes) a.reads)) from
          (Has-map (λ to. (cell_at def.family f.over vs, to)) (Has-flat_map (λ (r : Reference). cells d r.family r.indexes) i to)) in
          let l : rank (cell_at r.family g.over ws) < rank (cell_at def.family f.over vs) = falls a (is_base.is_undelayed a m) (cell_at def.family f.over vs, cell_at r.family g.over ws) edge in
          subst (λ o. height_of o r.family ws < height def.family vs) (sym known) (subst (λ o. rank (cell_at r.family g.over ws) < height_of o def.family vs) (sym there) l)

      agree_where : (t u : FlatState) → AgreeBelow (height def.family vs) t u → (a : Reading) → Has (undelayed def) a → IsReading def.family [] a → concerns (element def.family vs) a.left ≡ true → AgreeAt n t u a.reads
      agree_where t u agree a m of c r i g known ws may =
          agree r.family ws (λ chosen. reads_below a m of c r i g known ws may (right_of (among r.family ws) (is_element (slice_get d.families r.family) ws) chosen))

      stepped_same : (every : List Value) (before : Option FlatState) (t u : FlatState) → AgreeBelow (height def.family vs) t u → stepped_options n def (element def.family vs) every before t ≡ stepped_options n def (element def.family vs) every before u
      stepped_same every None t u agree =
          ap (λ w. unwrap_or w every) (same_result (concerns (element def.family vs)) n (element def.family vs) every def.family t u [] def.init []
          (λ a m c. agree_where t u agree a (Has-right (readings def.family [] def.comb) m) (reading_is def.family [] def.init a m) c))
      stepped_same every (Some old) t u agree = refl

      options_same : (every : List Value) (before : Option FlatState) (t u : FlatState) → AgreeBelow (height def.family vs) t u → options n def (element def.family vs) every before t ≡ options n def (element def.family vs) every before u
      options_same every before t u agree =
          ap (λ w. cond (is_concerned_by def.comb (element def.family vs)) (unwrap_or w every) (stepped_options n def (element def.family vs) every before t))
          (same_result (concerns (element def.family vs)) n (element def.family vs) every def.family t u [] def.comb []
          (λ a m c. agree_where t u agree a (Has-left (readings def.family [] def.init) m) (reading_is def.family [] def.comb a m) c)) ∙
          ap (λ ws. cond (is_concerned_by def.comb (element def.family vs)) (unwrap_or (result_by (concerns (element def.family vs)) n u (element def.family vs) every def.comb []) every) ws) (stepped_same every before t u agree)

    -- so states that agree below an element give it the same value
    valued_same : (before : Option FlatState) (t u : FlatState) (family : ℕ) (vs : List Value) (v : Value) → is_chosen family vs ≡ true → AgreeBelow (height family vs) t u →
        valued before t family vs v (base_of d family) ≡ valued before u family vs v (base_of d family)
    valued_same before t u family vs v chosen agree = by_base (base_of d family) refl
      where
        at_own : (def : Def) → IsBase d def → is_chosen def.family vs ≡ true → AgreeBelow (height def.family vs) t u → valued before t def.family vs v (Some def) ≡ valued before u def.family vs v (Some def)
        at_own def is_base chosen agree =
            let over : AreOver n is_base.its_family.over vs = over-are n is_base.its_family.over vs (subst (λ o. is_element o vs ≡ true) is_base.is_there (right_of (among def.family vs) (is_element (slice_get d.families def.family) vs) chosen)) in
            ap (λ ws. pick ws v) (options_same def is_base is_base.its_family is_base.is_there vs over (every_of def.family) before t u agree)

        by_base : (o : Option Def) → base_of d family ≡ o → valued before t family vs v o ≡ valued before u family vs v o
        by_base None e = refl
        by_base (Some def) e =
            let r : (def.family ≡ family) × IsBase d def = base_by d h family def e in
            subst (λ k. is_chosen k vs ≡ true → AgreeBelow (height k vs) t u → valued before t k vs v (Some def) ≡ valued before u k vs v (Some def)) r.0 (at_own def r.1) chosen agree

    module _ (before : Option FlatState) (s : FlatState) where
      stage_same : (k : ℕ) → AgreeBelow k (stage before s k) (stage before s (suc k))
      stage_same zero family vs below = elim (cases_Bool (is_chosen family vs)) [
        | inl c ↦ absurd (let l : height family vs < 0 = below c in omega (arith, l))
        | inr c ↦ stage-other before s 0 family vs c ∙ sym (stage-other before s 1 family vs c)
      ]
      stage_same (suc k) family vs below = elim (cases_Bool (is_chosen family vs)) [
        | inl c ↦
            stage-chosen before s k family vs c ∙
            (valued_same before (stage before s k) (stage before s (suc k)) family vs (s family vs) c
            (lower (height family vs) k (stage before s k) (stage before s (suc k)) (let l : height family vs < suc k = below c in omega (arith, l)) (stage_same k)) ∙
            sym (stage-chosen before s (suc k) family vs c))
        | inr c ↦ stage-other before s (suc k) family vs c ∙ sym (stage-other before s (suc (suc k)) family vs c)
      ]

      -- each element at the stage behind its height
      abbrev pub final : FlatState
      final family vs = stage before s (suc (height family vs)) family vs

      settled : (k : ℕ) → AgreeBelow k (stage before s k) final
      settled zero family vs below = elim (cases_Bool (is_chosen family vs)) [
        | inl c ↦ absurd (let l : height family vs < 0 = below c in omega (arith, l))
        | inr c ↦ stage-other before s 0 family vs c ∙ sym (stage-other before s (suc (height family vs)) family vs c)
      ]
      settled (suc k) family vs below = elim (cases_Bool (is_chosen family vs)) [
        | inl c ↦ elim (less_or_same (height family vs) k (below c)) [
          | inl l ↦ sym (stage_same k family vs (λ c. l)) ∙ settled k family vs (λ c. l)
          | inr e ↦ ap (λ j. stage before s (suc j) family vs) (sym e)
        ]
        | inr c ↦ stage-other before s (suc k) family vs c ∙ sym (stage-other before s (suc (height family vs)) family vs c)
      ]
        where
          less_or_same : (j k : ℕ) → j < suc k → (j < k) ⊎ (j ≡ k)
          less_or_same j k l = grind arith

      final-chosen : (family : ℕ) (vs : List Value) → is_chosen family vs ≡ true → final family vs ≡ valued before final family vs (s family vs) (base_of d family)
      final-chosen family vs c =
          stage-chosen before s (height family vs) family vs c ∙
          valued_same before (stage before s (height family vs)) final family vs (s family vs) c (settled (height family vs))

      final-other : (family : ℕ) (vs : List Value) → is_chosen family vs ≡ false → final family vs ≡ s family vs
      final-other family vs c = stage-other before s (suc (height family vs)) family vs c

      -- elements of other families keep their values
      pub final_outside : (family : ℕ) (vs : List Value) → among family vs ≡ false → final family vs ≡ s family vs
      final_outside family vs e = final-other family vs (ap (λ b. b && is_element (slice_get d.families family) vs) e)

      module _ (typed : IsTyped n s) (typed_before : IsTypedBefore n before) where
        has_before : (family : ℕ) (f : Family) → slice_get d.families family ≡ Some f → (vs : List Value) → AreOver n f.over vs → (def : Def) (one : (v : Value) × Has (every_of family) v) → (o : Option FlatState) → IsTypedBefore n o → IsBefore n def (element family vs) (every_of family) one o
        has_before family f there vs over def one None h = tt
        has_before family f there vs over def one (Some old) h = subst (λ o. Has (values_of_family n o) (old family vs)) (sym there) (h family f there vs (over-Has n f.over vs over))

        has_value : (family : ℕ) (f : Family) → slice_get d.families family ≡ Some f → (vs : List Value) → AreOver n f.over vs → Has (every_of family) (s family vs)
        has_value family f there vs over = subst (λ o. Has (values_of_family n o) (s family vs)) (sym there) (typed family f there vs (over-Has n f.over vs over))

        -- the base definition allows what is chosen
        pub final_allowed : (family : ℕ) (f : Family) → slice_get d.families family ≡ Some f → (def : Def) → base_of d family ≡ Some def → (vs : List Value) → among family vs ≡ true → AreOver n f.over vs →
            Has (flat_allowed n def (element family vs) (every_of family) before final) (final family vs) × Has (every_of family) (final family vs)
        final_allowed family f there def e vs a over =
            let one : (v : Value) × Has (every_of family) v = (s family vs, has_value family f there vs over) in
            let is : final family vs ≡ pick (options n def (element family vs) (every_of family) before final) (s family vs) = final-chosen family vs (chosen-is family f vs a there over) ∙ ap (valued before final family vs (s family vs)) e in
            let some : AreSome (every_of family) (options n def (element family vs) (every_of family) before final) = options_some n def (element family vs) (every_of family) one before final (has_before family f there vs over def one before typed_before) in
            let among_them : Has (options n def (element family vs) (every_of family) before final) (final family vs) =
            subst (Has (options n def (element family vs) (every_of family) before final)) (sym is) (pick-Has (every_of family) (options n def (element family vs) (every_of family) before final) (s family vs) some) in
            (options_within n def (element family vs) (every_of family) one before final (final family vs) among_them, some.1 (final family vs) among_them)

        pub final_typed : IsTyped n final
        final_typed family f there vs k =
            let over : AreOver n f.over vs = are_over n f.over vs k in
            subst (λ o. Has (values_of_family n o) (final family vs)) there (by_family (cases_Bool (among family vs)) (base_of d family) refl over)
          where
            by_family : (among family vs ≡ true) ⊎ (among family vs ≡ false) → (o : Option Def) → base_of d family ≡ o → AreOver n f.over vs → Has (every_of family) (final family vs)
            by_family (inl a) None e over =
                subst (Has (every_of family)) (sym (final-chosen family vs (chosen-is family f vs a there over) ∙ ap (valued before final family vs (s family vs)) e)) (has_value family f there vs over)
            by_family (inl a) (Some def) e over = (final_allowed family f there def e vs a over).1
            by_family (inr a) o e over = subst (Has (every_of family)) (sym (final_outside family vs a)) (has_value family f there vs over)
