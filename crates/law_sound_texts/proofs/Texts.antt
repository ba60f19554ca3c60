-- The states of a text and those of its flattened text, and what base definitions say in both.
use Rattle.std.proofs.Common.{◌≡◌, ℕ, zero, suc, ◌<◌, List, [], ◌∷◌, map, filter, length, Option, Some, None, Bool, true, false, not, ◌||◌, cond, nat_eq, is_none, refl, sym, ap, subst, ◌∙◌, ◌⊎◌, inl, inr, slice_get, get_or, option_map, option_to_list, All, Contains, arith}
use Rattle.std.specs.List.{flat_map, list_any, list_all, AllZip}
use Rattle.std.proofs.lemmas.List.Elements.{All-contains}
use Rattle.std.proofs.lemmas.Slice.Zip.{AllZip-long}
use Rattle.std.proofs.lemmas.Option.{slice_get_within}
use Rattle.std.proofs.lemmas.Bool.{and_from}
use Rattle.law_lists.proofs.Booleans.{left_of, right_of}
use Rattle.law_lists.proofs.Options.{some_is}
use Rattle.smv_core.specs.Values.{Value, Sizes, values_of}
use Rattle.smv_core.specs.Types.{Family}
use Rattle.smv_core.specs.FlatOrder.{TextDesign, design_of}
use Rattle.smv_core.specs.Outcome.{State, family_at}
use Rattle.smv_core.specs.Walk.{Element}
use Rattle.smv_core.specs.Allowed.{Base, base_of, layer_that_defines, allowed, allowed_by_base, every_value, values_at}
use Rattle.smv_core.specs.Sound.{choices, indexes_in, AtEachTime, IsTyped, MeetsBase, IsRun}
use Rattle.smv_core.specs.FlatMeaning.{Numbered, FlatState, simple_in, values_in, flat_allowed}
use Rattle.smv_core.specs.declared.tree.Text.{Text}
use Rattle.smv_core.specs.declared.flat.Simple.{Simple as FlatSimple}
use Rattle.smv_core.specs.declared.flat.Family.{Family as FlatFamily}
use Rattle.smv_core.specs.declared.flat.Def.{Def}
use Rattle.smv_core.specs.declared.flat.Design.{Design as FlatDesign}
use Rattle.smv_core.specs.declared.flat.FlatText.{FlatText}
use Rattle.law_designs.specs.Numbers.{family_number}
use Rattle.law_designs.specs.Flattening.{flatten, scope_in, layer_number}
use Rattle.law_designs.specs.Agreement.{AreSameStates, IsSameFamily, flat_element, numbers_in}
use Rattle.law_designs.specs.FlatTextAllowed.{AreSameBefore, flat_text_allowed}
use Rattle.law_designs.specs.WholeText.{is_one_layer}
use Rattle.law_designs.specs.Definitions.{design_of_flat_text}
use Rattle.law_designs.specs.Laws.{AllowsAsTheText, IsFreeWithout, is_of_family}
use Rattle.law_obligations.specs.Sets.{Has, first, later}
use Rattle.law_obligations.specs.Circular.{always}
use Rattle.law_obligations.specs.Soundness as flat
use Rattle.law_obligations.specs.Soundness.{map_of, over_of, params_of, values_of_family, values_over, is_held, meets_base}
use Rattle.law_obligations.specs.Outlines as outline
use Rattle.law_obligations.specs.Outlines.{bases, earliest, may_be_base}
use Rattle.law_obligations.proofs.Members.{Has-from_map, Has-flat_map, all-each, all-holds}
use Rattle.law_obligations.proofs.OneOfEach.{get_Has, Has_get}
use Rattle.law_obligations.proofs.Lookups.{Has-filter, Has-from_filter}
use Rattle.law_obligations.proofs.Same.{Has-is_in}
use Rattle.law_obligations.proofs.Spots.{Has-numbers}
use Rattle.law_designs.specs.LayerFaults.{is_abstract}
use Rattle.law_sound_texts.specs.Extension.{AgreeOutside, is_added, bases_outside, KeepsBehaviours}
use Rattle.law_sound_texts.specs.TextExtension.{MeetsImplementation, IsBehaviour, AgreeImplemented, IsSameLayer, LayersAreSame}
use Rattle.law_flat_kinds.specs.FamiliesFound.{FamiliesAreFound}
use Rattle.law_flat_kinds.proofs.Lists.{is_in-Has, some_or_none}
use Rattle.law_sound_texts.proofs.Faultless.{IsFaultless, IsBase, base_by, base_is}

-- ---- members

pub Contains-Has : {X : Type 0} (xs : List X) (x : X) → Contains xs x → Has xs x
Contains-Has [] x (k, l, e) = absurd (omega (arith, l))
Contains-Has {X} (y ∷ xs) x (zero, l, e) = subst (Has (y ∷ xs)) e first
Contains-Has (y ∷ xs) x (suc k, l, e) = later (Contains-Has xs x (k, omega (arith, l), e))

pub Has-Contains : {X : Type 0} {xs : List X} {x : X} → Has xs x → Contains xs x
Has-Contains first = (0, omega arith, refl)
Has-Contains (later h) = let r = Has-Contains h in (suc r.0, (let l = r.1 in omega (arith, l)), r.2)

get-in : {X : Type 0} (xs : List X) (k : ℕ) (x : X) → k < length xs → Has xs (get_or xs k x)
get-in [] k x l = absurd (omega (arith, l))
get-in (y ∷ xs) zero x l = first
get-in (y ∷ xs) (suc k) x l = later (get-in xs k x (omega (arith, l)))

pub Each-All : {X : Type 0} (P : X → Type 0) (xs : List X) → ((x : X) → Has xs x → P x) → All P xs
Each-All P xs h = λ k x l. h (get_or xs k x) (get-in xs k x l)

pub All-each : {X : Type 0} (P : X → Type 0) (xs : List X) (x : X) → All P xs → Has xs x → P x
All-each P xs x h k = All-contains P xs x h (Has-Contains k)

pub zip_right : {X Y : Type 0} (R : X → Y → Type 0) (xs : List X) (ys : List Y) → AllZip R xs ys → (k : ℕ) (y : Y) → slice_get ys k ≡ Some y → (x : X) × (slice_get xs k ≡ Some x) × R x y
zip_right R [] [] h k y e = absurd (cc (e))
zip_right R [] (z ∷ ys) h k y e = elim h [ ]
zip_right R (x ∷ xs) [] h k y e = elim h [ ]
zip_right R (x ∷ xs) (z ∷ ys) h zero y e = (x, refl, subst (R x) (some_is e) h.0)
zip_right R (x ∷ xs) (z ∷ ys) h (suc k) y e = zip_right R xs ys h.1 k y e

pub zip_left : {X Y : Type 0} (R : X → Y → Type 0) (xs : List X) (ys : List Y) → AllZip R xs ys → (k : ℕ) (x : X) → slice_get xs k ≡ Some x → (y : Y) × (slice_get ys k ≡ Some y) × R x y
zip_left R [] [] h k x e = absurd (cc (e))
zip_left R [] (z ∷ ys) h k x e = elim h [ ]
zip_left R (w ∷ xs) [] h k x e = elim h [ ]
zip_left R (w ∷ xs) (z ∷ ys) h zero x e = (z, refl, subst (λ w. R w z) (some_is e) h.0)
zip_left R (w ∷ xs) (z ∷ ys) h (suc k) x e = zip_left R xs ys h.1 k x e

-- ---- types

over_same : (n : Numbered) (over : List FlatSimple) → values_over n over ≡ choices (map (values_of n.sizes) (map (simple_in n) over))
over_same n [] = refl
over_same n (t ∷ over) = ap (λ l. flat_map (λ v. map (λ vs. v ∷ vs) l) (values_in n t)) (over_same n over)

-- what the base definition of a text allows, by the layer that has it
abbrev by_layer : TextDesign → Sizes → Element → Option State → State → Base → List Value
by_layer d sizes x before now None = every_value d sizes x
by_layer d sizes x before now (Some layer) = allowed d sizes layer x before now

module _ (text : Text) (sizes : Sizes) (families : AllZip (IsSameFamily (numbers_in text sizes)) (flatten text).families (design_of text).families) (found : FamiliesAreFound text) where
  abbrev d : TextDesign
  d = design_of text

  abbrev flat_text : FlatText
  flat_text = flatten text

  abbrev f : FlatDesign
  f = design_of_flat_text (flatten text)

  abbrev n : Numbered
  n = numbers_in text sizes

  pub in_text : (k : ℕ) (g : FlatFamily) → slice_get flat_text.families k ≡ Some g → (h : Family) × (slice_get d.families k ≡ Some h) × IsSameFamily n g h
  in_text k g e = zip_left (IsSameFamily n) flat_text.families d.families families k g e

  pub in_flat_text : (k : ℕ) (h : Family) → slice_get d.families k ≡ Some h → (g : FlatFamily) × (slice_get flat_text.families k ≡ Some g) × IsSameFamily n g h
  in_flat_text k h e = zip_right (IsSameFamily n) flat_text.families d.families families k h e

  pub indexes_same : (g : FlatFamily) (h : Family) → IsSameFamily n g h → values_over n g.over ≡ indexes_in sizes h
  indexes_same g h same = over_same n g.over ∙ ap (λ types. choices (map (values_of sizes) types)) same.1

  pub values_same : (g : FlatFamily) (h : Family) → IsSameFamily n g h → values_in n g.value ≡ values_of sizes h.value
  values_same g h same = ap (values_of sizes) same.2

  pub every_same : (k : ℕ) (h : Family) → slice_get d.families k ≡ Some h → (vs : List Value) → values_of_family n (slice_get flat_text.families k) ≡ every_value d sizes (record { path = h.path; indexes = vs })
  every_same k h e vs = let r = in_flat_text k h e in ap (values_of_family n) r.1 ∙ (values_same r.0 h r.2 ∙ sym (ap (values_at sizes) (found k h e).0))

  -- ---- states

  abbrev pub path_at : Option Family → List (List ℕ)
  path_at None = []
  path_at (Some h) = h.path

  abbrev pub to_flat : State → FlatState
  to_flat s k vs = s (path_at (slice_get d.families k)) vs

  abbrev pub to_text : FlatState → State
  to_text t path vs = t (family_number (scope_in text []) path) vs

  pub flat_same : (s : State) → AreSameStates d.families s (to_flat s)
  flat_same s k h e vs = ap (λ o. s (path_at o) vs) e

  pub text_same : (t : FlatState) → AreSameStates d.families (to_text t) t
  text_same t k h e vs = ap (λ j. t j vs) (sym (found k h e).1)

  pub flat_typed : (s : State) → IsTyped d sizes s → flat.IsTyped n (to_flat s)
  flat_typed s typed k g e vs i =
      let r : (h : Family) × (slice_get d.families k ≡ Some h) × IsSameFamily n g h = in_text k g e in
      let all : All (λ vs. Contains (values_of sizes r.0.value) (s r.0.path vs)) (indexes_in sizes r.0) =
      All-each (λ (h : Family). All (λ vs. Contains (values_of sizes h.value) (s h.path vs)) (indexes_in sizes h)) d.families r.0 typed (get_Has d.families k r.0 r.1) in
      let one : Contains (values_of sizes r.0.value) (s r.0.path vs) =
      All-each (λ vs. Contains (values_of sizes r.0.value) (s r.0.path vs)) (indexes_in sizes r.0) vs all (subst (λ l. Has l vs) (indexes_same g r.0 r.2) i) in
      subst (λ l. Has l (to_flat s k vs)) (sym (values_same g r.0 r.2)) (subst (Has (values_of sizes r.0.value)) (sym (flat_same s k r.0 r.1 vs)) (Contains-Has (values_of sizes r.0.value) (s r.0.path vs) one))

  typed_at : (t : FlatState) → flat.IsTyped n t → (k : ℕ) (h : Family) → slice_get d.families k ≡ Some h → (vs : List Value) → Has (indexes_in sizes h) vs → Has (values_of sizes h.value) (to_text t h.path vs)
  typed_at t typed k h e vs i =
      let r : (g : FlatFamily) × (slice_get flat_text.families k ≡ Some g) × IsSameFamily n g h = in_flat_text k h e in
      subst (Has (values_of sizes h.value)) (text_same t k h e vs) (subst (λ l. Has l (t k vs)) (values_same r.0 h r.2) (typed k r.0 r.1 vs (subst (λ l. Has l vs) (sym (indexes_same r.0 h r.2)) i)))

  text_typed : (t : FlatState) → flat.IsTyped n t → IsTyped d sizes (to_text t)
  text_typed t typed = Each-All _ d.families (λ h m. let k = Has_get m in Each-All _ (indexes_in sizes h) (λ vs i. Has-Contains (typed_at t typed k.0 h k.1 vs i)))

  -- ---- demands

  module _ (allows : All (AllowsAsTheText text) f.defs) (faultless : IsFaultless f) where
    -- a definition allows an element what the text allows it in the definition's layer
    pub demand_same : (k : ℕ) (h : Family) → slice_get d.families k ≡ Some h → (def : Def) → Has f.defs def → def.family ≡ k → (layer : Option (List ℕ)) → option_map (layer_number flat_text.layers) layer ≡ def.layer → (vs : List Value) →
        (before : Option State) (fore : Option FlatState) → AreSameBefore d.families before fore → (s : State) (t : FlatState) → AreSameStates d.families s t →
        flat_allowed n def (record { family = k; indexes = vs }) (values_of_family n (slice_get flat_text.families k)) fore t ≡ allowed d sizes layer (record { path = h.path; indexes = vs }) before s
    demand_same k h e def m own layer is vs before fore b s t states =
        let x : Element = record { path = h.path; indexes = vs } in
        let number : family_number (scope_in text []) h.path ≡ k = (found k h e).1 in
        ap (λ every. flat_allowed n def (record { family = k; indexes = vs }) every fore t) (every_same k h e vs) ∙
        (ap (λ j. flat_allowed n def (record { family = j; indexes = vs }) (every_value d sizes x) fore t) (sym number) ∙
        All-each (AllowsAsTheText text) f.defs def allows m sizes layer is x h (found k h e).0 (number ∙ sym own) before fore b s t states)

    not_added : (k : ℕ) (h : Family) → slice_get d.families k ≡ Some h → h.is_abstract ≡ false → is_added f k ≡ false
    not_added k h e a = let r = in_flat_text k h e in ap (is_abstract f) r.1 ∙ (r.2.3 ∙ a)

    -- of a family that is not abstract the base definition of the text is that outside layers
    pub implemented_at : (h : Family) (vs : List Value) (before : Option State) (s : State) → h.is_abstract ≡ false →
        allowed_by_base d sizes h (record { path = h.path; indexes = vs }) before s ≡ allowed d sizes None (record { path = h.path; indexes = vs }) before s
    implemented_at h vs before s a = ap (by_layer d sizes (record { path = h.path; indexes = vs }) before s) (ap (λ b. cond b (layer_that_defines h.path d.met) (Some None)) a)

    pub no_layer : (o : Option ℕ) → is_none o ≡ true → option_map (layer_number flat_text.layers) None ≡ o
    no_layer None e = refl
    no_layer (Some k) e = absurd (cc (e))

    -- ---- from the text

    meets_flat : (before : Option State) (fore : Option FlatState) → AreSameBefore d.families before fore → (s : State) → MeetsImplementation d sizes before s → meets_base n (bases_outside f (is_added f)) fore (to_flat s) ≡ true
    meets_flat before fore b s meets =
        all-holds (λ (def : Def). list_all (λ vs. is_held n (map_of def) vs fore (to_flat s)) (values_over n (params_of n (map_of def)))) (bases_outside f (is_added f)) (λ def i.
        let there : Has (bases f) def × (not (is_added f def.family) ≡ true) = Has-from_filter (λ (def : Def). not (is_added f def.family)) (bases f) i in
        all-holds (λ vs. is_held n (map_of def) vs fore (to_flat s)) (values_over n (params_of n (map_of def))) (λ vs j. held def there.0 (not_true (is_added f def.family) there.1) vs j))
      where
        not_true : (b : Bool) → not b ≡ true → b ≡ false
        not_true true e = absurd (cc (e))
        not_true false e = refl

        held : (def : Def) → Has (bases f) def → is_added f def.family ≡ false → (vs : List Value) → Has (values_over n (params_of n (map_of def))) vs → is_held n (map_of def) vs fore (to_flat s) ≡ true
        held def i out vs j =
            let base : IsBase f def = base_is f faultless def i in
            let r : (h : Family) × (slice_get d.families def.family ≡ Some h) × IsSameFamily n base.its_family h = in_text def.family base.its_family base.is_there in
            let x : Element = record { path = r.0.path; indexes = vs } in
            let plain : r.0.is_abstract ≡ false = sym (r.2.3) ∙ (ap (is_abstract f) (sym base.is_there) ∙ out) in
            let over : Has (indexes_in sizes r.0) vs = subst (λ l. Has l vs) (indexes_same base.its_family r.0 r.2) (subst (λ o. Has (values_over n (over_of o)) vs) base.is_there j) in
            let all : All (λ vs. Contains (allowed_by_base d sizes r.0 (record { path = r.0.path; indexes = vs }) before s) (s r.0.path vs)) (indexes_in sizes r.0) =
            All-each (λ (h : Family). All (λ vs. Contains (allowed_by_base d sizes h (record { path = h.path; indexes = vs }) before s) (s h.path vs)) (indexes_in sizes h)) (filter (λ (h : Family). not h.is_abstract) d.families) r.0 meets (Has-filter (λ (h : Family). not h.is_abstract) (get_Has d.families def.family r.0 r.1) (ap not plain)) in
            let one : Contains (allowed_by_base d sizes r.0 x before s) (s r.0.path vs) =
            All-each (λ vs. Contains (allowed_by_base d sizes r.0 (record { path = r.0.path; indexes = vs }) before s) (s r.0.path vs)) (indexes_in sizes r.0) vs all over in
            let text_has : Has (allowed d sizes None x before s) (s r.0.path vs) = subst (λ l. Has l (s r.0.path vs)) (implemented_at r.0 vs before s plain) (Contains-Has (allowed_by_base d sizes r.0 x before s) (s r.0.path vs) one) in
            let same : flat_allowed n def (record { family = def.family; indexes = vs }) (values_of_family n (slice_get flat_text.families def.family)) fore (to_flat s) ≡ allowed d sizes None x before s =
            demand_same def.family r.0 r.1 def base.is_def_of refl None (no_layer def.layer (base.is_outside out)) vs before fore b s (to_flat s) (flat_same s) in
            is_in-Has (flat_allowed n def (record { family = def.family; indexes = vs }) (values_of_family n (slice_get flat_text.families def.family)) fore (to_flat s)) (to_flat s def.family vs)
            (subst (λ l. Has l (to_flat s def.family vs)) (sym same) (subst (Has (allowed d sizes None x before s)) (sym (flat_same s def.family r.0 r.1 vs)) text_has))

    behaves : (before : Option State) (fore : Option FlatState) → AreSameBefore d.families before fore → (states : List State) → AtEachTime (MeetsImplementation d sizes) before states →
        always (meets_base n (bases_outside f (is_added f))) fore (map to_flat states) ≡ true
    behaves before fore b [] meets = refl
    behaves before fore b (s ∷ states) meets = and_from _ _ (meets_flat before fore b s meets.0) (behaves (Some s) (Some (to_flat s)) (flat_same s) states meets.1)

    -- ---- to the text

    module _ (layers : LayersAreSame text) (free : IsFreeWithout flat_text f.defs)
        (frees : (x : Element) (h : Family) → family_at d.families x.path ≡ Some h → (before : Option State) (fore : Option FlatState) → AreSameBefore d.families before fore → (s : State) (t : FlatState) → AreSameStates d.families s t →
        flat_text_allowed flat_text sizes None (flat_element (scope_in text []) x) (every_value d sizes x) fore t ≡ allowed d sizes None x before s) where
      -- without a definition outside layers a family that is not abstract is free
      nothing_outside : (k : ℕ) (g : FlatFamily) → slice_get flat_text.families k ≡ Some g → g.is_abstract ≡ false → outline.base_of f k ≡ None → list_any (is_of_family None k) f.defs ≡ false
      nothing_outside k g e a none = no_any (some_or_none (is_of_family None k) f.defs)
        where
          earliest-none : (defs : List Def) (x : Def) → earliest defs ≡ None → Has defs x → ⊥
          earliest-none [] x e i = elim i [ ]
          earliest-none (y ∷ defs) x e i = cc (e)

          outside : (o : Option ℕ) → is_one_layer None o ≡ true → is_none o ≡ true
          outside None e = refl
          outside (Some j) e = absurd (cc (e))

          or_right : (a b : Bool) → b ≡ true → (a || b) ≡ true
          or_right true b e = refl
          or_right false b e = e

          no : (x : Def) → Has f.defs x → is_of_family None k x ≡ true → ⊥
          no x i t =
              let may : may_be_base f k (Some g) x ≡ true =
              and_from (nat_eq x.family k) (g.is_abstract || is_none x.layer) (right_of (is_one_layer None x.layer) (nat_eq x.family k) t) (or_right g.is_abstract (is_none x.layer) (outside x.layer (left_of (is_one_layer None x.layer) (nat_eq x.family k) t))) in
              earliest-none (filter (may_be_base f k (slice_get flat_text.families k)) f.defs) x none (Has-filter (may_be_base f k (slice_get flat_text.families k)) i (subst (λ o. may_be_base f k o x ≡ true) (sym e) may))

          no_any : ((x : Def) × Has f.defs x × (is_of_family None k x ≡ true)) ⊎ ((x : Def) → Has f.defs x → is_of_family None k x ≡ false) → list_any (is_of_family None k) f.defs ≡ false
          no_any (inl (x, i, t)) = absurd (no x i t)
          no_any (inr h) = none_there f.defs h
            where
              none_there : (defs : List Def) → ((x : Def) → Has defs x → is_of_family None k x ≡ false) → list_any (is_of_family None k) defs ≡ false
              none_there [] h = refl
              none_there (y ∷ defs) h = rw (h y first) (none_there defs (λ x i. h x (later i)))

      module _ (before : Option State) (fore : Option FlatState) (b : AreSameBefore d.families before fore) (t : FlatState) (typed : flat.IsTyped n t) (meets : meets_base n (bases f) fore t ≡ true)
          (k : ℕ) (h : Family) (e : slice_get d.families k ≡ Some h) (vs : List Value) (i : Has (indexes_in sizes h) vs) where
        abbrev x : Element
        x = record { path = h.path; indexes = vs }

        abbrev v : Value
        v = to_text t h.path vs

        -- it has a value of its type
        is_any : Has (every_value d sizes x) v
        is_any = subst (λ l. Has l v) (sym (ap (values_at sizes) (found k h e).0)) (typed_at t typed k h e vs i)

        by_def : (def : Def) → outline.base_of f k ≡ Some def → (layer : Option (List ℕ)) → option_map (layer_number flat_text.layers) layer ≡ def.layer → Has (allowed d sizes layer x before (to_text t)) v
        by_def def is layer same =
            let own : (def.family ≡ k) × IsBase f def = base_by f faultless k def is in
            let r : (g : FlatFamily) × (slice_get flat_text.families k ≡ Some g) × IsSameFamily n g h = in_flat_text k h e in
            let there : Has (bases f) def =
            Has-flat_map (λ family. option_to_list (outline.base_of f family)) (Has-numbers 0 (length flat_text.families) k (omega arith) (let l = slice_get_within flat_text.families k r.0 r.1 in omega (arith, l)))
            (subst (λ o. Has (option_to_list o) def) (sym is) first) in
            let over : Has (values_over n (params_of n (map_of def))) vs =
            subst (λ j. Has (values_over n (over_of (slice_get flat_text.families j))) vs) (sym own.0) (subst (λ o. Has (values_over n (over_of o)) vs) (sym r.1) (subst (λ l. Has l vs) (sym (indexes_same r.0 h r.2)) i)) in
            let held : is_held n (map_of def) vs fore t ≡ true = all-each (λ vs. is_held n (map_of def) vs fore t) (all-each (λ (def : Def). list_all (λ vs. is_held n (map_of def) vs fore t) (values_over n (params_of n (map_of def)))) meets there) over in
            let flat_has : Has (flat_allowed n def (record { family = def.family; indexes = vs }) (values_of_family n (slice_get flat_text.families def.family)) fore t) (t def.family vs) = Has-is_in _ _ held in
            let at_k : Has (flat_allowed n def (record { family = k; indexes = vs }) (values_of_family n (slice_get flat_text.families k)) fore t) (t k vs) =
            subst (λ j. Has (flat_allowed n def (record { family = j; indexes = vs }) (values_of_family n (slice_get flat_text.families j)) fore t) (t j vs)) own.0 flat_has in
            subst (Has (allowed d sizes layer x before (to_text t))) (text_same t k h e vs)
            (subst (λ l. Has l (t k vs)) (demand_same k h e def own.1.is_def_of own.0 layer same vs before fore b (to_text t) t (text_same t)) at_k)

        by_nothing : h.is_abstract ≡ false → outline.base_of f k ≡ None → Has (allowed d sizes None x before (to_text t)) v
        by_nothing plain none =
            let r : (g : FlatFamily) × (slice_get flat_text.families k ≡ Some g) × IsSameFamily n g h = in_flat_text k h e in
            let number : family_number (scope_in text []) h.path ≡ k = (found k h e).1 in
            let lacks : list_any (is_of_family None (family_number (scope_in text []) h.path)) f.defs ≡ false = subst (λ j. list_any (is_of_family None j) f.defs ≡ false) (sym number) (nothing_outside k r.0 r.1 (r.2.3 ∙ plain) none) in
            let all : flat_text_allowed flat_text sizes None (flat_element (scope_in text []) x) (every_value d sizes x) fore t ≡ every_value d sizes x = free sizes None (flat_element (scope_in text []) x) lacks (every_value d sizes x) fore t in
            subst (λ l. Has l v) (sym all ∙ frees x h (found k h e).0 before fore b (to_text t) t (text_same t)) is_any

        by_abstract : (a : Bool) → h.is_abstract ≡ a → Has (allowed_by_base d sizes h x before (to_text t)) v
        by_abstract false plain = subst (λ l. Has l v) (sym (implemented_at h vs before (to_text t) plain)) (by_base (outline.base_of f k) refl)
          where
            by_base : (o : Option Def) → outline.base_of f k ≡ o → Has (allowed d sizes None x before (to_text t)) v
            by_base None is = by_nothing plain is
            by_base (Some def) is =
                let own : (def.family ≡ k) × IsBase f def = base_by f faultless k def is in
                by_def def is None (no_layer def.layer (own.1.is_outside (subst (λ j. is_added f j ≡ false) (sym own.0) (not_added k h e plain))))
        by_abstract true is_abs = by_bases (base_of d h) (outline.base_of f k) refl (layers k h e is_abs)
          where
            by_bases : (l : Base) (o : Option Def) → outline.base_of f k ≡ o → IsSameLayer text l o → Has (by_layer d sizes x before (to_text t) l) v
            by_bases None None is same = is_any
            by_bases None (Some def) is same = elim same [ ]
            by_bases (Some layer) None is same = elim same [ ]
            by_bases (Some layer) (Some def) is same = by_def def is layer same

      meets_text : (before : Option State) (fore : Option FlatState) → AreSameBefore d.families before fore → (t : FlatState) → flat.IsTyped n t → meets_base n (bases f) fore t ≡ true → MeetsBase d sizes before (to_text t)
      meets_text before fore b t typed meets =
          Each-All _ d.families (λ h m. let k = Has_get m in Each-All _ (indexes_in sizes h) (λ vs i. Has-Contains (by_abstract before fore b t typed meets k.0 h k.1 vs i h.is_abstract refl)))

      runs_text : (before : Option State) (fore : Option FlatState) → AreSameBefore d.families before fore → (ts : List FlatState) → ((t : FlatState) → Has ts t → flat.IsTyped n t) → always (meets_base n (bases f)) fore ts ≡ true →
          AtEachTime (MeetsBase d sizes) before (map to_text ts)
      runs_text before fore b [] typed meets = tt
      runs_text before fore b (t ∷ ts) typed meets =
          let here : meets_base n (bases f) fore t ≡ true = left_of (meets_base n (bases f) fore t) (always (meets_base n (bases f)) (Some t) ts) meets in
          let rest : always (meets_base n (bases f)) (Some t) ts ≡ true = right_of (meets_base n (bases f) fore t) (always (meets_base n (bases f)) (Some t) ts) meets in
          (meets_text before fore b t (typed t first) here, runs_text (Some (to_text t)) (Some t) (text_same t) ts (λ u m. typed u (later m)) rest)

      -- ---- the law

      agree_text : (s : State) (t : FlatState) → AgreeOutside (is_added f) (to_flat s) t → AgreeImplemented d sizes s (to_text t)
      agree_text s t agree =
          Each-All _ (filter (λ (h : Family). not h.is_abstract) d.families) (λ h m.
          let there : Has d.families h × (not h.is_abstract ≡ true) = Has-from_filter (λ (h : Family). not h.is_abstract) d.families m in
          let k : (k : ℕ) × (slice_get d.families k ≡ Some h) = Has_get there.0 in
          Each-All _ (indexes_in sizes h) (λ vs i. sym (text_same t k.0 h k.1 vs) ∙ (agree k.0 (not_added k.0 h k.1 (plain h.is_abstract there.1)) vs ∙ flat_same s k.0 h k.1 vs)))
        where
          plain : (b : Bool) → not b ≡ true → b ≡ false
          plain true e = absurd (cc (e))
          plain false e = refl

      agree_texts : (states : List State) (ts : List FlatState) → AllZip (AgreeOutside (is_added f)) (map to_flat states) ts → AllZip (AgreeImplemented d sizes) states (map to_text ts)
      agree_texts [] [] h = tt
      agree_texts [] (t ∷ ts) h = elim h [ ]
      agree_texts (s ∷ states) [] h = elim h [ ]
      agree_texts (s ∷ states) (t ∷ ts) h = (agree_text s t h.0, agree_texts states ts h.1)

      flat_run : (s : State) (states : List State) → IsBehaviour d sizes (s ∷ states) → flat.IsRun n (bases_outside f (is_added f)) (map to_flat (s ∷ states))
      flat_run s states is = record {
        are_typed = λ t m. let r = Has-from_map to_flat (s ∷ states) m in subst (flat.IsTyped n) (sym r.2) (flat_typed r.0 (All-each (IsTyped d sizes) (s ∷ states) r.0 is.0 r.1));
        keeps_base = behaves None None tt (s ∷ states) is.1;
      }

      -- states of the design that are a run are those of a run of the text
      pub text_run : (ts : List FlatState) → 0 < length ts → flat.IsRun n (bases f) ts → IsRun d sizes (map to_text ts)
      text_run [] some is = absurd (omega (arith, some))
      text_run (t ∷ ts) some is = (
        Each-All (IsTyped d sizes) (map to_text (t ∷ ts)) (λ u m. let r = Has-from_map to_text (t ∷ ts) m in subst (IsTyped d sizes) (sym r.2) (text_typed r.0 (is.are_typed r.0 r.1))),
        runs_text None None tt (t ∷ ts) is.are_typed is.keeps_base,
      )

      pub keeps_text : KeepsBehaviours f → (behaviour : List State) → IsBehaviour d sizes behaviour → (run : List State) × AllZip (AgreeImplemented d sizes) behaviour run × IsRun d sizes run
      keeps_text keeps [] is = elim is [ ]
      keeps_text keeps (s ∷ states) is =
          let r : (run : List FlatState) × AllZip (AgreeOutside (is_added f)) (map to_flat (s ∷ states)) run × flat.IsRun n (bases f) run = keeps sizes (map to_flat (s ∷ states)) (flat_run s states is) in
          let long : length r.0 ≡ length (map to_flat (s ∷ states)) = AllZip-long (AgreeOutside (is_added f)) (map to_flat (s ∷ states)) r.0 r.1 in
          (map to_text r.0, agree_texts (s ∷ states) r.0 r.1, text_run r.0 (omega (arith, long)) r.2)
