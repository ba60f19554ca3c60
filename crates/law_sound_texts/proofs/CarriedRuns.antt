-- Each run of a text is one of its design.
use Rattle.std.proofs.Common.{◌≡◌, List, [], ◌∷◌, map, Option, Some, None, Bool, true, false, cond, refl, sym, ap, subst, ◌∙◌, slice_get, option_map, All, Contains}
use Rattle.std.specs.List.{list_all, AllZip}
use Rattle.std.proofs.lemmas.Bool.{and_from}
use Rattle.smv_core.specs.Values.{Name, Value, Sizes}
use Rattle.smv_core.specs.Types.{Family}
use Rattle.smv_core.specs.FlatOrder.{TextDesign, design_of}
use Rattle.smv_core.specs.Outcome.{State}
use Rattle.smv_core.specs.Walk.{Element}
use Rattle.smv_core.specs.Allowed.{Base, base_of, layer_that_defines, allowed, allowed_by_base, every_value}
use Rattle.smv_core.specs.Sound.{indexes_in, AtEachTime, IsTyped, MeetsBase, IsRun}
use Rattle.smv_core.specs.FlatMeaning.{Numbered, FlatState, flat_allowed}
use Rattle.smv_core.specs.declared.tree.Text.{Text}
use Rattle.smv_core.specs.declared.flat.Def.{Def}
use Rattle.smv_core.specs.declared.flat.Design.{Design as FlatDesign}
use Rattle.smv_core.specs.declared.flat.Family.{Family as FlatFamily}
use Rattle.smv_core.specs.declared.flat.FlatText.{FlatText}
use Rattle.law_designs.specs.Flattening.{flatten, layer_number}
use Rattle.law_designs.specs.Agreement.{AreSameStates, IsSameFamily, numbers_in}
use Rattle.law_designs.specs.FlatTextAllowed.{AreSameBefore}
use Rattle.law_designs.specs.Definitions.{design_of_flat_text}
use Rattle.law_designs.specs.Laws.{AllowsAsTheText}
use Rattle.law_obligations.specs.Sets.{Has}
use Rattle.law_obligations.specs.Circular.{always}
use Rattle.law_obligations.specs.Soundness as flat
use Rattle.law_obligations.specs.Soundness.{map_of, over_of, params_of, values_of_family, values_over, is_held, meets_base}
use Rattle.law_obligations.specs.Outlines as outline
use Rattle.law_obligations.specs.Outlines.{bases}
use Rattle.law_obligations.proofs.Members.{Has-from_map, all-holds}
use Rattle.law_obligations.proofs.OneOfEach.{get_Has}
use Rattle.law_designs.specs.LayerFaults.{is_abstract}
use Rattle.law_sound_texts.specs.TextExtension.{IsSameLayer, LayersAreSame}
use Rattle.law_flat_kinds.specs.FamiliesFound.{FamiliesAreFound}
use Rattle.law_flat_kinds.proofs.Lists.{is_in-Has}
use Rattle.law_sound_texts.proofs.Faultless.{IsFaultless, IsBase, base_is}
use Rattle.law_sound_texts.proofs.Texts.{Contains-Has, All-each, in_text, indexes_same, to_flat, to_text, text_same, flat_same, flat_typed, demand_same, no_layer}

-- the layer of the base definition of a family
abbrev pub ItsLayer : Text → Family → Def → Type 0
ItsLayer text h def = (layer : Option Name) × (base_of (design_of text) h ≡ Some layer) × (option_map (layer_number (flatten text).layers) layer ≡ def.layer)

module _ (text : Text) (sizes : Sizes) (families : AllZip (IsSameFamily (numbers_in text sizes)) (flatten text).families (design_of text).families) (found : FamiliesAreFound text) where
  pub same_texts : (ts : List FlatState) → AllZip (AreSameStates (design_of text).families) (map (to_text text sizes families found) ts) ts
  same_texts [] = tt
  same_texts (t ∷ ts) = (text_same text sizes families found t, same_texts ts)

module _ (text : Text) (sizes : Sizes) (families : AllZip (IsSameFamily (numbers_in text sizes)) (flatten text).families (design_of text).families) (found : FamiliesAreFound text)
    (allows : All (AllowsAsTheText text) (design_of_flat_text (flatten text)).defs) (faultless : IsFaultless (design_of_flat_text (flatten text))) (layers : LayersAreSame text) where
  abbrev d : TextDesign
  d = design_of text

  abbrev flat_text : FlatText
  flat_text = flatten text

  abbrev f : FlatDesign
  f = design_of_flat_text (flatten text)

  abbrev n : Numbered
  n = numbers_in text sizes

  abbrev carried : State → FlatState
  carried = to_flat text sizes families found

  its_layer : (def : Def) → IsBase f def → (h : Family) → slice_get d.families def.family ≡ Some h → (g : FlatFamily) → slice_get flat_text.families def.family ≡ Some g → IsSameFamily n g h → ItsLayer text h def
  its_layer def base h e g there same = by_abstract h.is_abstract refl
    where
      by_bases : (l : Base) (o : Option Def) → base_of d h ≡ l → o ≡ Some def → IsSameLayer text l o → ItsLayer text h def
      by_bases None None is own s = absurd (cc (own))
      by_bases None (Some other) is own s = elim s [ ]
      by_bases (Some layer) None is own s = elim s [ ]
      by_bases (Some layer) (Some other) is own s = let same : other ≡ def = cc in (layer, is, s ∙ ap (λ (def : Def). def.layer) same)

      by_abstract : (a : Bool) → h.is_abstract ≡ a → ItsLayer text h def
      by_abstract false plain = (
        None,
        ap (λ b. cond b (layer_that_defines h.path d.met) (Some None)) plain,
        no_layer text sizes families found allows faultless def.layer (base.is_outside (ap (is_abstract f) there ∙ (same.3 ∙ plain))),
      )
      by_abstract true is_abs = by_bases (base_of d h) (outline.base_of f def.family) refl base.is_base_of (layers def.family h e is_abs)

  -- an element that meets the text's base definition meets the design's
  held : (before : Option State) (fore : Option FlatState) → AreSameBefore d.families before fore → (s : State) → MeetsBase d sizes before s → (def : Def) → Has (bases f) def → (vs : List Value) → Has (values_over n (params_of n (map_of def))) vs →
      is_held n (map_of def) vs fore (carried s) ≡ true
  held before fore b s meets def i vs j =
      let base : IsBase f def = base_is f faultless def i in
      let r : (h : Family) × (slice_get d.families def.family ≡ Some h) × IsSameFamily n base.its_family h = in_text text sizes families found def.family base.its_family base.is_there in
      let x : Element = record { path = r.0.path; indexes = vs } in
      let over : Has (indexes_in sizes r.0) vs = subst (λ l. Has l vs) (indexes_same text sizes families found base.its_family r.0 r.2) (subst (λ o. Has (values_over n (over_of o)) vs) base.is_there j) in
      let all : All (λ vs. Contains (allowed_by_base d sizes r.0 (record { path = r.0.path; indexes = vs }) before s) (s r.0.path vs)) (indexes_in sizes r.0) =
      All-each (λ (h : Family). All (λ vs. Contains (allowed_by_base d sizes h (record { path = h.path; indexes = vs }) before s) (s h.path vs)) (indexes_in sizes h)) d.families r.0 meets (get_Has d.families def.family r.0 r.1) in
      let one : Contains (allowed_by_base d sizes r.0 x before s) (s r.0.path vs) = All-each (λ vs. Contains (allowed_by_base d sizes r.0 (record { path = r.0.path; indexes = vs }) before s) (s r.0.path vs)) (indexes_in sizes r.0) vs all over in
      let l : ItsLayer text r.0 def = its_layer def base r.0 r.1 base.its_family base.is_there r.2 in
      let text_has : Has (allowed d sizes l.0 x before s) (s r.0.path vs) = subst (λ o. Has (by_layer x o) (s r.0.path vs)) l.1 (Contains-Has (allowed_by_base d sizes r.0 x before s) (s r.0.path vs) one) in
      let same : flat_allowed n def (record { family = def.family; indexes = vs }) (values_of_family n (slice_get flat_text.families def.family)) fore (carried s) ≡ allowed d sizes l.0 x before s =
      demand_same text sizes families found allows faultless def.family r.0 r.1 def base.is_def_of refl l.0 l.2 vs before fore b s (carried s) (flat_same text sizes families found s) in
      is_in-Has (flat_allowed n def (record { family = def.family; indexes = vs }) (values_of_family n (slice_get flat_text.families def.family)) fore (carried s)) (carried s def.family vs)
      (subst (λ l. Has l (carried s def.family vs)) (sym same) (subst (Has (allowed d sizes l.0 x before s)) (sym (flat_same text sizes families found s def.family r.0 r.1 vs)) text_has))
    where
      by_layer : Element → Base → List Value
      by_layer x None = every_value d sizes x
      by_layer x (Some layer) = allowed d sizes layer x before s

  meets_flat : (before : Option State) (fore : Option FlatState) → AreSameBefore d.families before fore → (s : State) → MeetsBase d sizes before s → meets_base n (bases f) fore (carried s) ≡ true
  meets_flat before fore b s meets =
      all-holds (λ (def : Def). list_all (λ vs. is_held n (map_of def) vs fore (carried s)) (values_over n (params_of n (map_of def)))) (bases f)
      (λ def i. all-holds (λ vs. is_held n (map_of def) vs fore (carried s)) (values_over n (params_of n (map_of def))) (λ vs j. held before fore b s meets def i vs j))

  meets_always : (before : Option State) (fore : Option FlatState) → AreSameBefore d.families before fore → (run : List State) → AtEachTime (MeetsBase d sizes) before run → always (meets_base n (bases f)) fore (map carried run) ≡ true
  meets_always before fore b [] meets = refl
  meets_always before fore b (s ∷ run) meets = and_from _ _ (meets_flat before fore b s meets.0) (meets_always (Some s) (Some (carried s)) (flat_same text sizes families found s) run meets.1)

  same_states : (run : List State) → AllZip (AreSameStates d.families) run (map carried run)
  same_states [] = tt
  same_states (s ∷ run) = (flat_same text sizes families found s, same_states run)

  pub carried_run : (run : List State) → IsRun d sizes run → (flat_run : List FlatState) × AllZip (AreSameStates d.families) run flat_run × flat.IsRun n (bases f) flat_run
  carried_run [] is = elim is [ ]
  carried_run (s ∷ run) is = (
    map carried (s ∷ run),
    same_states (s ∷ run),
    record {
      are_typed = λ t m. let r = Has-from_map carried (s ∷ run) m in subst (flat.IsTyped n) (sym r.2) (flat_typed text sizes families found r.0 (All-each (IsTyped d sizes) (s ∷ run) r.0 is.0 r.1));
      keeps_base = meets_always None None tt (s ∷ run) is.1;
    },
  )
