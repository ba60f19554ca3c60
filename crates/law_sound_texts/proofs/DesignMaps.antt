-- Maps that hold in the text hold in its design.
use Rattle.std.proofs.Common.{◌≡◌, ℕ, ◌+◌, List, [], ◌∷◌, map, flat_map, zip, length, Option, Some, None, Bool, true, false, not, cond, if◌then◌else◌, nat_eq, refl, sym, ap, subst, ◌∙◌, slice_get, option_map, All, inl, inr}
use Rattle.std.specs.List.{AllZip}
use Rattle.std.proofs.lemmas.Slice.Eq.{bytes_eq-Decides}
use Rattle.law_lists.proofs.Booleans.{clash}
use Rattle.smv_core.specs.Values.{Name, Value, Sizes, numbers_from}
use Rattle.smv_core.specs.Types.{Family}
use Rattle.smv_core.specs.FlatOrder.{TextDesign, Said, design_of}
use Rattle.smv_core.specs.Outcome.{State, family_at}
use Rattle.smv_core.specs.Walk.{Element}
use Rattle.smv_core.specs.Allowed.{Base, allowed, base_of, is_defined_by, is_layer, layer_that_defines, said_in}
use Rattle.smv_core.specs.Sound as tree
use Rattle.smv_core.specs.Sound.{AtEachTime, Holds, indexes_in, map_unless_base, units}
use Rattle.smv_core.specs.FlatMeaning.{Numbered, FlatState, flat_allowed}
use Rattle.smv_core.specs.declared.tree.Text.{Text}
use Rattle.smv_core.specs.declared.flat.Def.{Def}
use Rattle.smv_core.specs.declared.flat.Design.{Design as FlatDesign}
use Rattle.smv_core.specs.declared.flat.Family.{Family as FlatFamily}
use Rattle.smv_core.specs.declared.flat.FlatText.{FlatText}
use Rattle.law_designs.specs.Flattening.{FlatAssigned, flat_assignments, flatten, layer_number}
use Rattle.law_designs.specs.Agreement.{AreSameStates, IsSameFamily, numbers_in}
use Rattle.law_designs.specs.FlatTextAllowed.{AreSameBefore}
use Rattle.law_designs.specs.SameActs.{IsSameAct, layered_acts}
use Rattle.law_designs.specs.Standing.{Standing, Statement, assigned_by, statements_of}
use Rattle.law_designs.specs.Definitions.{Head, def_of, design_of_flat_text, first_heads, head, heads_of, same_definition}
use Rattle.law_designs.specs.Laws.{AllowsAsTheText}
use Rattle.law_obligations.specs.Sets.{Has, first, later}
use Rattle.law_obligations.proofs.Members.{Has-uncons, Has-from_map, Has-flat_map, any-found}
use Rattle.law_obligations.specs.Circular.{always}
use Rattle.law_obligations.specs.Soundness.{map_of, over_of, params_of, values_of_family, values_over, is_held}
use Rattle.law_obligations.specs.Outlines as outline
use Rattle.law_obligations.specs.Units.{is_base_in, is_refinement}
use Rattle.law_obligations.proofs.OneOfEach.{Has-from_flat_map, get_Has, Has_get}
use Rattle.law_obligations.proofs.Same.{nat_eq-itself}
use Rattle.law_sound_texts.specs.TextExtension.{IsSameLayer, LayersAreSame}
use Rattle.law_flat_kinds.specs.FamiliesFound.{FamiliesAreFound}
use Rattle.law_flat_kinds.proofs.Lists.{is_in-Has, Has-from_different}
use Rattle.law_sound_texts.proofs.Faultless.{IsFaultless}
use Rattle.law_sound_texts.proofs.Texts.{Contains-Has, demand_same, in_flat_text, in_text, indexes_same, zip_left}
use Rattle.law_sound_texts.specs.Exact.{IsExact, LeftSidesAreExact}
use Rattle.law_sound_texts.proofs.FirstHeads.{IsOne, assigns, standing-one}
use Rattle.law_sound_texts.proofs.SameLayers.{statements-zip}
use Rattle.law_sound_texts.proofs.TextUnits.{map-there}
use Rattle.law_sound_texts.proofs.Times.{always-from}

-- an assignment of the statement, by which its family is among those that the statement assigns
abbrev IsMade : Head → Statement → Type 0
IsMade h s = (a : Standing) × Has (assigned_by s) a × (h.family ≡ a.family) × (h.layer ≡ s.layer) × (assigns h.family s ≡ true)

module _ (layer : Option ℕ) (h : Head) where
  abbrev Made : List Standing → List FlatAssigned → Type 0
  Made as' bs = (a : Standing) × Has as' a × (h.family ≡ a.family) × (h.layer ≡ layer) × ((b : FlatAssigned) × Has bs b × (h.family ≡ b.family))

  made-each : (as' : List Standing) (bs : List FlatAssigned) (k : ℕ) → AllZip (IsOne layer) as' bs → Has (map (λ (a, k). head a k) (zip as' (numbers_from k (length bs)))) h → Made as' bs
  made-each [] [] k same m = elim m [ ]
  made-each [] (b ∷ bs) k same m = elim same [ ]
  made-each (a ∷ as') [] k same m = elim same [ ]
  made-each (a ∷ as') (b ∷ bs) k same m = elim (Has-uncons m) [
    | inl e ↦ (a, first, ap (λ (h : Head). h.family) e, ap (λ (h : Head). h.layer) e ∙ same.0.0, (b, first, ap (λ (h : Head). h.family) e ∙ same.0.1))
    | inr rest ↦ let r = made-each as' bs (k + 1) same.1 rest in (r.0, later r.1, r.2, r.3, (r.4.0, later r.4.1, r.4.2))
  ]

made : (s : Statement) (h : Head) → Has (heads_of s) h → IsMade h s
made s h m =
    let r : Made s.layer h (assigned_by s) (flat_assignments s.act) = made-each s.layer h (assigned_by s) (flat_assignments s.act) s.place (standing-one s.layer [] s.act) m in
    (r.0, r.1, r.2, r.3, any-found (λ (a : FlatAssigned). nat_eq a.family h.family) r.4.1 (subst (λ k. nat_eq k h.family ≡ true) r.4.2 (nat_eq-itself h.family)))

same-layer : (o : Option Name) (layer : Name) → is_layer o (Some layer) ≡ true → o ≡ Some layer
same-layer None layer e = absurd (cc (e))
same-layer (Some other) layer e = ap Some ((bytes_eq-Decides other layer).0 e)

-- the map of a family in a layer, unless it has the base definition
module _ (layer : Name) (h : Family) where
  abbrev is_base_layer : Base → Bool
  is_base_layer None = false
  is_base_layer (Some other) = is_layer other (Some layer)

  abbrev Here : Bool → Type 0
  Here b = Has (if b then [] else tree.map_of layer h ∷ []) (tree.map_of layer h)

module _ (text : Text) (sizes : Sizes) (families : AllZip (IsSameFamily (numbers_in text sizes)) (flatten text).families (design_of text).families) (found : FamiliesAreFound text)
    (allows : All (AllowsAsTheText text) (design_of_flat_text (flatten text)).defs) (faultless : IsFaultless (design_of_flat_text (flatten text))) (layers : LayersAreSame text)
    (acts : AllZip (IsSameAct text) (layered_acts (flatten text).items) (flat_map said_in (design_of text).met)) (exact : LeftSidesAreExact (flatten text)) where
  abbrev d : TextDesign
  d = design_of text

  abbrev flat_text : FlatText
  flat_text = flatten text

  abbrev f : FlatDesign
  f = design_of_flat_text (flatten text)

  abbrev n : Numbered
  n = numbers_in text sizes

  -- a refinement is of no layer that has the family's base definition in the text
  refines : (h : Family) (k : ℕ) → slice_get d.families k ≡ Some h → (layer : Name) → is_refinement f k (Some (layer_number flat_text.layers layer)) ≡ true → Has (map_unless_base d layer h) (tree.map_of layer h)
  refines h k at layer is = by_base (base_of d h) refl
    where
      not_base : (o : Option Def) → outline.base_of f k ≡ o → IsSameLayer text (Some (Some layer)) o → ⊥
      not_base None e same = same
      not_base (Some def) e same =
          let own : is_base_in (layer_number flat_text.layers layer) (outline.base_of f k) ≡ true = ap (is_base_in (layer_number flat_text.layers layer)) e ∙ subst (λ o. outline.is_in_layer (layer_number flat_text.layers layer) o ≡ true) same (nat_eq-itself (layer_number flat_text.layers layer)) in
          clash is (ap not own)

      never : base_of d h ≡ Some (Some layer) → (a : Bool) → h.is_abstract ≡ a → ⊥
      never e false plain = let other : base_of d h ≡ Some None = ap (λ b. cond b (layer_that_defines h.path d.met) (Some None)) plain in cc (e, other)
      never e true is_abs = not_base (outline.base_of f k) refl (subst (λ l. IsSameLayer text l (outline.base_of f k)) e (layers k h at is_abs))

      by_test : (o : Base) → base_of d h ≡ o → (b : Bool) → is_base_layer layer h o ≡ b → Here layer h b
      by_test o e false t = first
      by_test None e true t = absurd (cc (t))
      by_test (Some other) e true t = absurd (never (e ∙ ap Some (same-layer other layer t)) h.is_abstract refl)

      by_base : (o : Base) → base_of d h ≡ o → Has (map_unless_base d layer h) (tree.map_of layer h)
      by_base o e = subst (λ o. Here layer h (is_base_layer layer h o)) (sym e) (by_test o e (is_base_layer layer h o) refl)

  -- a map of the text for a refinement
  abbrev pub ItsMap : Def → Type 0
  ItsMap def = (h : Family) × (slice_get d.families def.family ≡ Some h) × ((layer : Name) × (Some (layer_number flat_text.layers layer) ≡ def.layer) × Has (units d) (tree.map_of layer h))

  is_defined : (k : ℕ) (h : Family) → slice_get d.families k ≡ Some h → (s : Statement) (x : Said) → IsSameAct text (s.layer, s.act) x → assigns k s ≡ true → is_defined_by h.path x ≡ true
  is_defined k h at s x same e = sym (same.1 h.path h (found k h at).0) ∙ (ap (λ j. assigns j s) (found k h at).1 ∙ e)

  pub its_map : (head : Head) → Has (first_heads flat_text) head → is_refinement f head.family head.layer ≡ true → ItsMap (def_of flat_text head)
  its_map head m is =
      let s : (s : Statement) × Has (statements_of flat_text) s × Has (heads_of s) head = Has-from_flat_map heads_of (statements_of flat_text) (Has-from_different same_definition (flat_map heads_of (statements_of flat_text)) m) in
      let p : IsMade head s.0 = made s.0 head s.2 in
      let g : IsExact flat_text p.0 = exact p.0 (Has-flat_map assigned_by s.1 p.1) in
      let h : (h : Family) × (slice_get d.families head.family ≡ Some h) × IsSameFamily n g.0 h = in_text text sizes families found head.family g.0 (ap (slice_get flat_text.families) p.2 ∙ g.1) in
      let j : (j : ℕ) × (slice_get (statements_of flat_text) j ≡ Some s.0) = Has_get s.1 in
      let x : (x : Said) × (slice_get (flat_map said_in d.met) j.0 ≡ Some x) × IsSameAct text (s.0.layer, s.0.act) x =
      zip_left (λ (s : Statement) x. IsSameAct text (s.layer, s.act) x) (statements_of flat_text) (flat_map said_in d.met) (statements-zip text 0 flat_text.items (flat_map said_in d.met) acts) j.0 s.0 j.1 in
      let defined : is_defined_by h.0.path x.0 ≡ true = is_defined head.family h.0 h.1 s.0 x.0 x.2 p.4 in
      (h.0, h.1, by_layer h.0 h.1 x.0 (get_Has (flat_map said_in d.met) j.0 x.0 x.1) defined x.0.layer refl (p.3 ∙ x.2.0))
    where
      found_at : (h : Family) → Has d.families h → family_at d.families h.path ≡ Some h
      found_at h m = let k = Has_get m in (found k.0 h k.1).0

      by_layer : (h : Family) → slice_get d.families head.family ≡ Some h → (x : Said) → Has (flat_map said_in d.met) x → is_defined_by h.path x ≡ true → (o : Option Name) → x.layer ≡ o → head.layer ≡ option_map (layer_number flat_text.layers) x.layer →
          (layer : Name) × (Some (layer_number flat_text.layers layer) ≡ head.layer) × Has (units d) (tree.map_of layer h)
      by_layer h at x there defined None outside same = absurd (clash is (ap (is_refinement f head.family) (same ∙ ap (option_map (layer_number flat_text.layers)) outside)))
      by_layer h at x there defined (Some layer) in_layer same =
          let own : head.layer ≡ Some (layer_number flat_text.layers layer) = same ∙ ap (option_map (layer_number flat_text.layers)) in_layer in
          (layer, sym own, map-there d found_at x there layer in_layer h (get_Has d.families head.family h at) defined (refines h head.family at layer (subst (λ o. is_refinement f head.family o ≡ true) own is)))

  -- so for each definition that is a refinement
  pub map-of : (def : Def) → Has f.defs def → is_refinement f def.family def.layer ≡ true → ItsMap def
  map-of def m is =
      let head : (head : Head) × Has (first_heads flat_text) head × (def ≡ def_of flat_text head) = Has-from_map (def_of flat_text) (first_heads flat_text) m in
      subst ItsMap (sym head.2) (its_map head.0 head.1 (subst (λ (def : Def). is_refinement f def.family def.layer ≡ true) head.2 is))

  module _ (run : List State) (ts : List FlatState) (states : AllZip (AreSameStates d.families) run ts)
      (holds : (layer : Name) (h : Family) → Has (units d) (tree.map_of layer h) → (vs : List Value) → Has (indexes_in sizes h) vs → AtEachTime (Holds d sizes (tree.map_of layer h) vs) None run) where
    pub map_always : (def : Def) → Has f.defs def → is_refinement f def.family def.layer ≡ true → (vs : List Value) → Has (values_over n (params_of n (map_of def))) vs → always (is_held n (map_of def) vs) None ts ≡ true
    map_always def m is vs i =
        let its : ItsMap def = map-of def m is in
        by_map its.0 its.1 its.2.0 its.2.1 its.2.2
      where
        by_map : (h : Family) → slice_get d.families def.family ≡ Some h → (layer : Name) → Some (layer_number flat_text.layers layer) ≡ def.layer → Has (units d) (tree.map_of layer h) → always (is_held n (map_of def) vs) None ts ≡ true
        by_map h at layer in_layer there =
            let g : (g : FlatFamily) × (slice_get flat_text.families def.family ≡ Some g) × IsSameFamily n g h = in_flat_text text sizes families found def.family h at in
            let over : Has (indexes_in sizes h) vs = subst (λ l. Has l vs) (indexes_same text sizes families found g.0 h g.2) (subst (λ o. Has (values_over n (over_of o)) vs) g.1 i) in
            always-from d.families (Holds d sizes (tree.map_of layer h) vs) (is_held n (map_of def) vs) gives None None tt run ts states (holds layer h there vs over)
          where
            gives : (before : Option State) (fore : Option FlatState) → AreSameBefore d.families before fore → (s : State) (t : FlatState) → AreSameStates d.families s t → Holds d sizes (tree.map_of layer h) vs before s → is_held n (map_of def) vs fore t ≡ true
            gives before fore b s t same held =
                let x : Element = record { path = h.path; indexes = vs } in
                let values : flat_allowed n def (record { family = def.family; indexes = vs }) (values_of_family n (slice_get flat_text.families def.family)) fore t ≡ allowed d sizes (Some layer) x before s =
                demand_same text sizes families found allows faultless def.family h at def m refl (Some layer) in_layer vs before fore b s t same in
                is_in-Has (flat_allowed n def (record { family = def.family; indexes = vs }) (values_of_family n (slice_get flat_text.families def.family)) fore t) (t def.family vs)
                (subst (λ l. Has l (t def.family vs)) (sym values) (subst (Has (allowed d sizes (Some layer) x before s)) (sym (same def.family h at vs)) (Contains-Has (allowed d sizes (Some layer) x before s) (s h.path vs) held)))
