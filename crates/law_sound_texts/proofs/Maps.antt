-- Maps that hold in the design hold in the text.
use Rattle.std.proofs.Common.{◌≡◌, ℕ, List, [], ◌∷◌, length, Option, Some, None, Bool, true, false, not, nat_eq, refl, sym, ap, subst, ◌∙◌, inl, inr, slice_get, option_to_list, All, Contains, arith}
use Rattle.std.specs.List.{AllZip, list_all, list_any}
use Rattle.std.proofs.lemmas.Option.{slice_get_within}
use Rattle.law_lists.proofs.Booleans.{left_of, right_of}
use Rattle.law_lists.proofs.Numbers.{nat_eq-is}
use Rattle.smv_core.specs.Values.{Name, Value, Sizes, values_of}
use Rattle.smv_core.specs.Types.{Family}
use Rattle.smv_core.specs.FlatOrder.{TextDesign, design_of}
use Rattle.smv_core.specs.Outcome.{State, family_at}
use Rattle.smv_core.specs.Walk.{Element}
use Rattle.smv_core.specs.Allowed.{allowed, every_value, values_at}
use Rattle.smv_core.specs.Sound as tree
use Rattle.smv_core.specs.Sound.{indexes_in, Holds, AtEachTime, IsTyped}
use Rattle.smv_core.specs.FlatMeaning.{Numbered, FlatState, flat_allowed}
use Rattle.smv_core.specs.declared.tree.Text.{Text}
use Rattle.smv_core.specs.declared.flat.Def.{Def}
use Rattle.smv_core.specs.declared.flat.Design.{Design as FlatDesign}
use Rattle.smv_core.specs.declared.flat.Family.{Family as FlatFamily}
use Rattle.smv_core.specs.declared.flat.FlatText.{FlatText}
use Rattle.smv_core.specs.declared.flat.Unit.TheVariants.{Map}
use Rattle.law_designs.specs.Numbers.{family_number}
use Rattle.law_designs.specs.Flattening.{flatten, layer_number, scope_in}
use Rattle.law_designs.specs.Agreement.{AreSameStates, IsSameFamily, flat_element, numbers_in}
use Rattle.law_designs.specs.FlatTextAllowed.{AreSameBefore, flat_text_allowed}
use Rattle.law_designs.specs.WholeText.{is_one_layer}
use Rattle.law_designs.specs.Definitions.{design_of_flat_text}
use Rattle.law_designs.specs.Laws.{AllowsAsTheText, IsFreeWithout, is_of_family}
use Rattle.law_obligations.specs.Sets.{Has, first, later}
use Rattle.law_obligations.specs.Circular.{always}
use Rattle.law_obligations.specs.Soundness as flat
use Rattle.law_obligations.specs.Soundness.{map_of, over_of, params_of, values_of_family, values_over, is_held, meets_base}
use Rattle.law_obligations.specs.Outlines as outline
use Rattle.law_obligations.specs.Outlines.{names_of, bases, as_map, is_in_layer}
use Rattle.law_obligations.specs.Units.{is_base_in, is_refinement}
use Rattle.law_obligations.specs.Checked.{HoldsAlways}
use Rattle.law_obligations.proofs.Members.{Has-flat_map, all-each}
use Rattle.law_obligations.proofs.OneOfEach.{get_Has, Has_get}
use Rattle.law_obligations.proofs.Same.{Has-is_in}
use Rattle.law_obligations.proofs.Spots.{Has-numbers}
use Rattle.law_flat_kinds.specs.FamiliesFound.{FamiliesAreFound}
use Rattle.law_flat_kinds.proofs.Lists.{some_or_none}
use Rattle.law_sound_texts.proofs.Faultless.{IsFaultless, IsBase, base_by}
use Rattle.law_sound_texts.proofs.Texts.{Has-Contains, All-each, in_flat_text, indexes_same, demand_same}
use Rattle.law_sound_texts.specs.Carried.{UnitsHold}
use Rattle.law_sound_texts.proofs.Units.{map-unit}
use Rattle.law_sound_texts.proofs.Times.{always-gives, always-true, at-each-time}

-- where no member passes a test
no-any : {X : Type 0} (p : X → Bool) (xs : List X) → ((x : X) → Has xs x → p x ≡ false) → list_any p xs ≡ false
no-any p [] h = refl
no-any p (x ∷ xs) h = rw (h x first) (no-any p xs (λ y k. h y (later k)))

-- one layer by its number
one-layer : (number : ℕ) (o : Option ℕ) → is_one_layer (Some number) o ≡ true → Some number ≡ o
one-layer number None e = absurd (cc (e))
one-layer number (Some other) e = ap Some (nat_eq-is number other e)

in-layer : (number : ℕ) (o : Option ℕ) → is_in_layer number o ≡ true → Some number ≡ o
in-layer number None e = absurd (cc (e))
in-layer number (Some other) e = ap Some (sym (nat_eq-is other number e))

module _ (text : Text) (sizes : Sizes) (families : AllZip (IsSameFamily (numbers_in text sizes)) (flatten text).families (design_of text).families) (found : FamiliesAreFound text)
    (allows : All (AllowsAsTheText text) (design_of_flat_text (flatten text)).defs) (faultless : IsFaultless (design_of_flat_text (flatten text))) (free : IsFreeWithout (flatten text) (design_of_flat_text (flatten text)).defs) where
  abbrev d : TextDesign
  d = design_of text

  abbrev flat_text : FlatText
  flat_text = flatten text

  abbrev f : FlatDesign
  f = design_of_flat_text (flatten text)

  abbrev n : Numbered
  n = numbers_in text sizes

  -- the flattened text allows what the text allows, in each layer
  abbrev pub FlatTextAllowsSame : Type 0
  FlatTextAllowsSame = (layer : Option Name) (x : Element) (h : Family) → family_at d.families x.path ≡ Some h → (before : Option State) (fore : Option FlatState) → AreSameBefore d.families before fore → (s : State) (t : FlatState) → AreSameStates d.families s t →
      flat_text_allowed flat_text sizes layer (flat_element (scope_in text []) x) (every_value d sizes x) fore t ≡ allowed d sizes layer x before s

  module _ (frees : FlatTextAllowsSame) (hold : UnitsHold f) (are : flat.AreSizes (names_of f) sizes)
      (run : List State) (ts : List FlatState) (states : AllZip (AreSameStates d.families) run ts) (typed : (s : State) → Has run s → IsTyped d sizes s) (is : flat.IsRun n (bases f) ts)
      (layer : Name) (h : Family) (k : ℕ) (at : slice_get d.families k ≡ Some h) (vs : List Value) (i : Has (indexes_in sizes h) vs) where
    abbrev number : ℕ
    number = layer_number flat_text.layers layer

    abbrev x : Element
    x = record { path = h.path; indexes = vs }

    abbrev Allows : Option State → State → Type 0
    Allows = Holds d sizes (tree.map_of layer h) vs

    over : (def : Def) → def.family ≡ k → Has (values_over n (params_of n (map_of def))) vs
    over def own =
        let r : (g : FlatFamily) × (slice_get flat_text.families k ≡ Some g) × IsSameFamily n g h = in_flat_text text sizes families found k h at in
        subst (λ j. Has (values_over n (over_of (slice_get flat_text.families j))) vs) (sym own) (subst (λ o. Has (values_over n (over_of o)) vs) (sym r.1) (subst (λ l. Has l vs) (sym (indexes_same text sizes families found r.0 h r.2)) i))

    -- a definition of the layer that always holds
    by_def : (def : Def) → Has f.defs def → def.family ≡ k → Some number ≡ def.layer → always (is_held n (map_of def) vs) None ts ≡ true → AtEachTime Allows None run
    by_def def m own in_layer holds = at-each-time d.families (IsTyped d sizes) Allows (is_held n (map_of def) vs) gives None None tt run ts states typed holds
      where
        gives : (before : Option State) (fore : Option FlatState) → AreSameBefore d.families before fore → (s : State) (t : FlatState) → AreSameStates d.families s t → IsTyped d sizes s → is_held n (map_of def) vs fore t ≡ true → Allows before s
        gives before fore b s t same typed held =
            let flat_has : Has (flat_allowed n def (record { family = def.family; indexes = vs }) (values_of_family n (slice_get flat_text.families def.family)) fore t) (t def.family vs) = Has-is_in _ _ held in
            let at_k : Has (flat_allowed n def (record { family = k; indexes = vs }) (values_of_family n (slice_get flat_text.families k)) fore t) (t k vs) =
            subst (λ j. Has (flat_allowed n def (record { family = j; indexes = vs }) (values_of_family n (slice_get flat_text.families j)) fore t) (t j vs)) own flat_has in
            Has-Contains (subst (Has (allowed d sizes (Some layer) x before s)) (same k h at vs)
            (subst (λ l. Has l (t k vs)) (demand_same text sizes families found allows faultless k h at def m own (Some layer) in_layer vs before fore b s t same) at_k))

    -- a base definition always holds
    by_base : (def : Def) → outline.base_of f k ≡ Some def → always (is_held n (map_of def) vs) None ts ≡ true
    by_base def is_base =
        let own : (def.family ≡ k) × IsBase f def = base_by f faultless k def is_base in
        let r : (g : FlatFamily) × (slice_get flat_text.families k ≡ Some g) × IsSameFamily n g h = in_flat_text text sizes families found k h at in
        let there : Has (bases f) def =
        Has-flat_map (λ family. option_to_list (outline.base_of f family)) (Has-numbers 0 (length flat_text.families) k (omega arith) (let l = slice_get_within flat_text.families k r.0 r.1 in omega (arith, l)))
        (subst (λ o. Has (option_to_list o) def) (sym is_base) first) in
        always-gives (meets_base n (bases f)) (is_held n (map_of def) vs)
        (λ fore t meets. all-each (λ vs. is_held n (map_of def) vs fore t) (all-each (λ (def : Def). list_all (λ vs. is_held n (map_of def) vs fore t) (values_over n (params_of n (map_of def)))) meets there) (over def own.0)) None ts is.keeps_base

    -- a refinement always holds, where the units hold
    by_unit : (def : Def) → Has f.defs def → def.family ≡ k → is_refinement f def.family def.layer ≡ true → always (is_held n (map_of def) vs) None ts ≡ true
    by_unit def m own refines =
        let j : (j : ℕ) × (slice_get f.defs j ≡ Some def) = Has_get m in
        let always_holds : HoldsAlways f (map_of def) = subst (λ o. HoldsAlways f (as_map o)) j.1 (hold (Map j.0) (map-unit f j.0 def j.1 refines)) in
        always_holds sizes are ts is vs (over def own)

    -- without a definition in the layer the element is free there
    by_nothing : list_any (is_of_family (Some number) k) f.defs ≡ false → AtEachTime Allows None run
    by_nothing none = at-each-time d.families (IsTyped d sizes) Allows (λ fore t. true) gives None None tt run ts states typed (always-true None ts)
      where
        gives : (before : Option State) (fore : Option FlatState) → AreSameBefore d.families before fore → (s : State) (t : FlatState) → AreSameStates d.families s t → IsTyped d sizes s → true ≡ true → Allows before s
        gives before fore b s t same typed held =
            let lacks : list_any (is_of_family (Some number) (family_number (scope_in text []) h.path)) f.defs ≡ false = subst (λ j. list_any (is_of_family (Some number) j) f.defs ≡ false) (sym (found k h at).1) none in
            let all : flat_text_allowed flat_text sizes (Some layer) (flat_element (scope_in text []) x) (every_value d sizes x) fore t ≡ every_value d sizes x = free sizes (Some layer) (flat_element (scope_in text []) x) lacks (every_value d sizes x) fore t in
            let same_values : allowed d sizes (Some layer) x before s ≡ values_of sizes h.value = sym (frees (Some layer) x h (found k h at).0 before fore b s t same) ∙ (all ∙ ap (values_at sizes) (found k h at).0) in
            let of_family : All (λ vs. Contains (values_of sizes h.value) (s h.path vs)) (indexes_in sizes h) =
            All-each (λ (h : Family). All (λ vs. Contains (values_of sizes h.value) (s h.path vs)) (indexes_in sizes h)) d.families h typed (get_Has d.families k h at) in
            subst (λ l. Contains l (s h.path vs)) (sym same_values) (All-each (λ vs. Contains (values_of sizes h.value) (s h.path vs)) (indexes_in sizes h) vs of_family i)

    -- a definition of the layer is a refinement, or the layer has the family's base definition
    by_layer : (def : Def) → Has f.defs def → def.family ≡ k → Some number ≡ def.layer → (b : Bool) → is_base_in number (outline.base_of f k) ≡ b → AtEachTime Allows None run
    by_layer def m own in_layer false other =
        let refines : is_refinement f def.family def.layer ≡ true = subst (λ o. is_refinement f def.family o ≡ true) in_layer (ap (λ j. not (is_base_in number (outline.base_of f j))) own ∙ ap not other) in
        by_def def m own in_layer (by_unit def m own refines)
    by_layer def m own in_layer true base = by_bases (outline.base_of f k) refl base
      where
        by_bases : (o : Option Def) → outline.base_of f k ≡ o → is_base_in number o ≡ true → AtEachTime Allows None run
        by_bases None e base = absurd (cc (base))
        by_bases (Some other) e base =
            let its : (other.family ≡ k) × IsBase f other = base_by f faultless k other e in
            by_def other its.1.is_def_of its.0 (in-layer number other.layer base) (by_base other e)

    pub map_holds : AtEachTime Allows None run
    map_holds = elim (some_or_none (is_of_family (Some number) k) f.defs) [
      | inl r ↦ by_layer r.0 r.1 (nat_eq-is r.0.family k (right_of (is_one_layer (Some number) r.0.layer) (nat_eq r.0.family k) r.2)) (one-layer number r.0.layer (left_of (is_one_layer (Some number) r.0.layer) (nat_eq r.0.family k) r.2)) (is_base_in number (outline.base_of f k)) refl
      | inr none ↦ by_nothing (no-any (is_of_family (Some number) k) f.defs none)
    ]
