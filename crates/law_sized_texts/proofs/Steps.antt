-- An instance of a unit of a text holds exactly where that of the unit of its design does, in states that are the same.
use Rattle.std.proofs.Common.{◌≡◌, List, [], ◌∷◌, length, slice_get, Option, Some, All, Bool, true, false, not, refl, sym, ap, subst, ◌∙◌}
use Rattle.std.specs.List.{AllZip}
use Rattle.std.proofs.lemmas.List.{length-map}
use Rattle.smv_core.specs.Values.{Name, Value, Sizes, number, truth}
use Rattle.smv_core.specs.Types.{Family, values_over as values_of_type}
use Rattle.smv_core.specs.FlatOrder.{TextDesign, design_of}
use Rattle.smv_core.specs.Outcome.{State, is_true}
use Rattle.smv_core.specs.Allowed.{allowed}
use Rattle.smv_core.specs.Sound as tree
use Rattle.smv_core.specs.Sound.{ProofUnit, bound, instances, indexes_in, Holds}
use Rattle.smv_core.specs.Violating.{AtLastTime}
use Rattle.smv_core.specs.FlatMeaning.{Numbered, FlatState, values_in, flat_outcome, flat_allowed}
use Rattle.smv_core.specs.declared.tree.Text.{Text}
use Rattle.smv_core.specs.declared.tree.TypeExpr.{TypeExpr}
use Rattle.smv_core.specs.declared.flat.Def.{Def}
use Rattle.smv_core.specs.declared.flat.Claim.{Claim as FlatClaim}
use Rattle.smv_core.specs.declared.flat.Param.{Param}
use Rattle.smv_core.specs.declared.flat.Design.{Design as FlatDesign}
use Rattle.smv_core.specs.declared.flat.FlatText.{FlatText}
use Rattle.smv_core.specs.declared.flat.Unit.{Unit as DesignUnit}
use Rattle.law_designs.specs.Flattening.{flatten, layer_number}
use Rattle.law_designs.specs.Agreement.{AreSameStates, IsSameFamily, numbers_in}
use Rattle.law_designs.specs.FlatTextAllowed.{AreSameBefore}
use Rattle.law_designs.specs.WholeText.{IsSameClaim, claims_of, claims_met}
use Rattle.law_designs.specs.Definitions.{design_of_flat_text}
use Rattle.law_designs.specs.Laws.{AllowsAsTheText}
use Rattle.law_obligations.specs.Sets.{Has, one_of_each}
use Rattle.law_obligations.specs.Soundness.{map_of, over_of, values_of_family, params_of, values_over, is_held}
use Rattle.law_obligations.specs.Outlines.{unit_in, as_map, as_claim}
use Rattle.law_obligations.proofs.OneOfEach.{get_Has}
use Rattle.law_obligations.proofs.GuardsKeep.{is_one}
use Rattle.law_obligations.proofs.Same.{is_in-Has, Has-is_in}
use Rattle.law_sound_texts.proofs.Faultless.{IsFaultless}
use Rattle.law_sound_texts.proofs.Texts.{Contains-Has, Has-Contains, zip_right, demand_same, indexes_same, to_flat, flat_same, in_flat_text}
use Rattle.law_sound_texts.proofs.Claims.{ClaimsAreSame, types}
use Rattle.law_sound_texts.proofs.Times.{one-choices, choice-length}
use Rattle.law_concrete.specs.Runs.{at_last}
use Rattle.law_sized_texts.specs.Texts.{IsSameUnit, same_map, same_claim}
use Rattle.law_lists.proofs.Lists.{map-map}
use Rattle.law_flat_kinds.specs.FamiliesFound.{FamiliesAreFound}

module _ (text : Text) (sizes : Sizes) (families : AllZip (IsSameFamily (numbers_in text sizes)) (flatten text).families (design_of text).families) (found : FamiliesAreFound text)
    (allows : All (AllowsAsTheText text) (design_of_flat_text (flatten text)).defs) (faultless : IsFaultless (design_of_flat_text (flatten text))) (claims : ClaimsAreSame text sizes) where
  abbrev d : TextDesign
  d = design_of text

  abbrev flat_text : FlatText
  flat_text = flatten text

  abbrev f : FlatDesign
  f = design_of_flat_text (flatten text)

  abbrev n : Numbered
  n = numbers_in text sizes

  -- the parameters of a unit have the same values in the text and in its design
  pub values-same : (u : ProofUnit) (unit : DesignUnit) → IsSameUnit text u unit → values_over n (params_of n (unit_in f unit)) ≡ instances d sizes u
  values-same _ _ (same_map layer h k def at there is) =
      let g = in_flat_text text sizes families found def.family h there in
      ap (λ o. values_over n (params_of n (as_map o))) at ∙ (ap (λ o. values_over n (over_of o)) g.1 ∙ indexes_same text sizes families found g.0 h g.2)
  values-same _ _ (same_claim c k at) =
      let s : State = λ path vs. number 0 in
      let r : (fc : FlatClaim) × (slice_get (claims_of flat_text.items) k ≡ Some fc) × IsSameClaim text sizes s (to_flat text sizes families found s) fc c =
      zip_right (IsSameClaim text sizes s (to_flat text sizes families found s)) (claims_of flat_text.items) (claims_met d.met) (claims s (to_flat text sizes families found s) (flat_same text sizes families found s)) k c at in
      ap (λ o. values_over n (params_of n (as_claim o))) r.1 ∙ (ap one_of_each (map-map (values_in n) (λ (p : Param). p.over) r.0.params ∙ r.2.1) ∙ one-choices (types text sizes c))

  -- what a step says of an instance, in the text and in the design
  abbrev AtStep : ProofUnit → DesignUnit → List Value → Type 0
  AtStep u unit vs = (before : Option State) (fore : Option FlatState) → AreSameBefore d.families before fore → (s : State) (t : FlatState) → AreSameStates d.families s t →
      (Holds d sizes u vs before s → is_held n (unit_in f unit) vs fore t ≡ true) × (is_held n (unit_in f unit) vs fore t ≡ true → Holds d sizes u vs before s)

  map-step : (layer : Name) (h : Family) (def : Def) → Has f.defs def → slice_get d.families def.family ≡ Some h → Some (layer_number flat_text.layers layer) ≡ def.layer → (vs : List Value) →
      (before : Option State) (fore : Option FlatState) → AreSameBefore d.families before fore → (s : State) (t : FlatState) → AreSameStates d.families s t →
      (Holds d sizes (tree.map_of layer h) vs before s → is_held n (map_of def) vs fore t ≡ true) × (is_held n (map_of def) vs fore t ≡ true → Holds d sizes (tree.map_of layer h) vs before s)
  map-step layer h def m there is vs before fore b s t states =
      let A = flat_allowed n def (record { family = def.family; indexes = vs }) (values_of_family n (slice_get n.families def.family)) fore t in
      let B = allowed d sizes (Some layer) (record { path = h.path; indexes = vs }) before s in
      let e : A ≡ B = demand_same text sizes families found allows faultless def.family h there def m refl (Some layer) is vs before fore b s t states in
      let v : t def.family vs ≡ s h.path vs = states def.family h there vs in (
        λ held. is_in-Has (subst (λ l. Has l (t def.family vs)) (sym e) (subst (Has B) (sym v) (Contains-Has B (s h.path vs) held))),
        λ held. Has-Contains (subst (Has B) v (subst (λ l. Has l (t def.family vs)) e (Has-is_in A (t def.family vs) held))),
      )

  pub step : (u : ProofUnit) (unit : DesignUnit) → IsSameUnit text u unit → (vs : List Value) → Has (instances d sizes u) vs → AtStep u unit vs
  step _ _ (same_map layer h k def at there is) vs i before fore b s t states =
      subst (λ o. (Holds d sizes (tree.map_of layer h) vs before s → is_held n (as_map o) vs fore t ≡ true) × (is_held n (as_map o) vs fore t ≡ true → Holds d sizes (tree.map_of layer h) vs before s)) (sym at)
      (map-step layer h def (get_Has f.defs k def at) there is vs before fore b s t states)
  step _ _ (same_claim c k at) vs i before fore b s t states =
      let r : (fc : FlatClaim) × (slice_get (claims_of flat_text.items) k ≡ Some fc) × IsSameClaim text sizes s t fc c = zip_right (IsSameClaim text sizes s t) (claims_of flat_text.items) (claims_met d.met) (claims s t states) k c at in
      let long : length vs ≡ length c.params = choice-length (types text sizes c) vs i ∙ length-map c.params (λ ((name, over) : Name × TypeExpr). values_of_type d.types sizes over) in
      subst (λ o. (Holds d sizes (tree.claim_of c) vs before s → is_held n (as_claim o) vs fore t ≡ true) × (is_held n (as_claim o) vs fore t ≡ true → Holds d sizes (tree.claim_of c) vs before s)) (sym r.1)
      (λ held. ap (λ o. is_true (truth o)) (r.2.2 vs long ∙ held), λ held. sym (r.2.2 vs long) ∙ is_one (flat_outcome n t r.0.body vs) held)

  -- at the last time
  module _ (u : ProofUnit) (unit : DesignUnit) (vs : List Value) (at : AtStep u unit vs) where
    clash : {b : Bool} → not b ≡ true → b ≡ true → ⊥
    clash p q = cc

    pub to-text : (before : Option State) (fore : Option FlatState) → AreSameBefore d.families before fore → (run : List State) (ts : List FlatState) → AllZip (AreSameStates d.families) run ts →
        at_last (λ before now. not (is_held n (unit_in f unit) vs before now)) fore ts ≡ true → AtLastTime (λ before now. ¬ Holds d sizes u vs before now) before run
    to-text before fore b [] [] same e = absurd (cc (e))
    to-text before fore b [] (t ∷ ts) same e = elim same [ ]
    to-text before fore b (s ∷ run) [] same e = elim same [ ]
    to-text before fore b (s ∷ []) (t ∷ []) same e = λ held. clash e ((at before fore b s t same.0).0 held)
    to-text before fore b (s ∷ []) (t ∷ t' ∷ ts) same e = elim same.1 [ ]
    to-text before fore b (s ∷ s' ∷ run) (t ∷ []) same e = elim same.1 [ ]
    to-text before fore b (s ∷ s' ∷ run) (t ∷ t' ∷ ts) same e = to-text (Some s) (Some t) same.0 (s' ∷ run) (t' ∷ ts) same.1 e

    fails-flat : (b : Bool) → (b ≡ true → ⊥) → not b ≡ true
    fails-flat true h = absurd (h refl)
    fails-flat false h = refl

    pub to-design : (before : Option State) (fore : Option FlatState) → AreSameBefore d.families before fore → (run : List State) (ts : List FlatState) → AllZip (AreSameStates d.families) run ts →
        AtLastTime (λ before now. ¬ Holds d sizes u vs before now) before run → at_last (λ before now. not (is_held n (unit_in f unit) vs before now)) fore ts ≡ true
    to-design before fore b [] [] same e = elim e [ ]
    to-design before fore b [] (t ∷ ts) same e = elim same [ ]
    to-design before fore b (s ∷ run) [] same e = elim same [ ]
    to-design before fore b (s ∷ []) (t ∷ []) same e = fails-flat (is_held n (unit_in f unit) vs fore t) (λ held. e ((at before fore b s t same.0).1 held))
    to-design before fore b (s ∷ []) (t ∷ t' ∷ ts) same e = elim same.1 [ ]
    to-design before fore b (s ∷ s' ∷ run) (t ∷ []) same e = elim same.1 [ ]
    to-design before fore b (s ∷ s' ∷ run) (t ∷ t' ∷ ts) same e = to-design (Some s) (Some t) same.0 (s' ∷ run) (t' ∷ ts) same.1 e
