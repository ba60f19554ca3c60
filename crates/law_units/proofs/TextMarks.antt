-- The units that a text meets are the assignments that make maps and the claims that its flattened text has, one for one.
use Rattle.std.proofs.Common.{◌≡◌, ℕ, ◌+◌, List, [], ◌∷◌, ◌++◌, map, flat_map, filter, zip, length, Option, Some, None, Bool, true, false, cond, not, ◌&&◌, is_none, nat_eq, refl, sym, ap, subst, ◌∙◌, slice_get, option_map, option_to_list}
use Rattle.std.specs.Str.{bytes_eq}
use Rattle.std.specs.List.{AllZip}
use Rattle.std.proofs.lemmas.Slice.Eq.{slice_eq-Decides, bytes_eq-Decides}
use Rattle.smv_core.specs.Values.{Name, Path, numbers_from}
use Rattle.smv_core.specs.Types.{Family}
use Rattle.smv_core.specs.FlatOrder.{TextDesign, Met, said, claimed, Claimed, design_of}
use Rattle.smv_core.specs.Outcome.{family_at, same_path}
use Rattle.smv_core.specs.Assignments.{Assigned, assignments}
use Rattle.smv_core.specs.Allowed.{Base, base_of, assignments_in, is_layer, layer_that_defines}
use Rattle.smv_core.specs.Sound.{ProofUnit, map_of, claim_of, same_unit, map_unless_base, maps_of, units_met}
use Rattle.smv_core.specs.declared.tree.Text.{Text}
use Rattle.smv_core.specs.declared.flat.Claim.{Claim as FlatClaim}
use Rattle.smv_core.specs.declared.flat.Def.{Def}
use Rattle.smv_core.specs.declared.flat.Design.{Design}
use Rattle.smv_core.specs.declared.flat.FlatStmt.{FlatStmt}
use Rattle.smv_core.specs.declared.flat.FlatItem.{FlatItem}
use Rattle.law_designs.specs.Numbers.{family_number}
use Rattle.law_designs.specs.Statements.{flat_stmt}
use Rattle.law_designs.specs.Entries.{claim, split, using, Entry, layer as layer_head, statement, goal, entries}
use Rattle.law_designs.specs.Flattening.{FlatAssigned, flat_assignments, scope_in, flatten, flat_entry, with_places, layers_of, layer_number, dotted}
use Rattle.law_designs.specs.WholeText.{is_one_layer, claims_of, claims_met}
use Rattle.law_designs.specs.Standing.{Standing, count, statements_from, assigned_by}
use Rattle.law_designs.specs.Definitions.{Head, head, heads_of, same_definition, design_of_flat_text}
use Rattle.law_designs.specs.LayerFaults.{is_abstract}
use Rattle.law_designs.proofs.Entries.{AreAlike}
use Rattle.law_designs.proofs.Layers.{IsListed, AreListed}
use Rattle.law_designs.proofs.SameWalks.{path-equal}
use Rattle.law_obligations.specs.Sets.{Has, first, later}
use Rattle.law_obligations.specs.Outlines as outline
use Rattle.law_obligations.specs.Outlines.{is_in_layer}
use Rattle.law_obligations.specs.Units.{is_base_in, is_refinement}
use Rattle.law_obligations.proofs.Members.{Has-left, Has-right}
use Rattle.law_lists.proofs.Numbers.{nat_eq-is}
use Rattle.law_obligations.proofs.Same.{nat_eq-itself}
use Rattle.law_lists.proofs.Booleans.{same_tests, left_of, right_of, and_both}
use Rattle.law_sound_texts.specs.TextExtension.{IsSameLayer, LayersAreSame}
use Rattle.law_flat_kinds.specs.FamiliesFound.{FamiliesAreFound}
use Rattle.law_sound_texts.proofs.Faultless.{IsFaultless, base_by}
use Rattle.law_sound_texts.proofs.FirstFound.{zip-append}
use Rattle.law_sound_texts.proofs.FirstHeads.{IsOne, standing-one}
use Rattle.law_units.proofs.Positions.{inner, layer-there, layer-is, family-flat, family-of-path}
use Rattle.law_units.proofs.SameAssigned.{IsSameAssigned, same-assigned}
use Rattle.law_units.proofs.Marks.{Mark, made, stated, same_mark, statement_at, marks}

path-same : (p q : Path) → p ≡ q → same_path p q ≡ true
path-same p q = (slice_eq-Decides bytes_eq-Decides p q (same_path p q) refl).1

-- ---- numbers of layers

one_layer : (o p : Option ℕ) → is_one_layer o p ≡ true → o ≡ p
one_layer None None e = refl
one_layer None (Some k) e = absurd (cc (e))
one_layer (Some j) None e = absurd (cc (e))
one_layer (Some j) (Some k) e = ap Some (nat_eq-is j k e)

one_layer-same : (o : Option ℕ) → is_one_layer o o ≡ true
one_layer-same None = refl
one_layer-same (Some k) = nat_eq-itself k

filter-append : {X : Type 0} (p : X → Bool) (xs ys : List X) → filter p (xs ++ ys) ≡ filter p xs ++ filter p ys
filter-append p [] ys = refl
filter-append p (x ∷ xs) ys = by_test (p x) (filter-append p xs ys)
  where
    by_test : (b : Bool) → filter p (xs ++ ys) ≡ filter p xs ++ filter p ys → cond b (x ∷ filter p (xs ++ ys)) (filter p (xs ++ ys)) ≡ cond b (x ∷ filter p xs) (filter p xs) ++ filter p ys
    by_test true e = ap (λ l. x ∷ l) e
    by_test false e = e

module _ (text : Text) where
  abbrev t : TextDesign
  t = design_of text

  abbrev d : Design
  d = design_of_flat_text (flatten text)

  abbrev names : List Name
  names = layers_of (entries text)

  -- a unit that the text meets, and what stands for it: an assignment of the family in the layer, or the claim
  abbrev pub Stands : ProofUnit → Mark → Type 0
  Stands (map_of layer f) (made h) = (slice_get t.families h.family ≡ Some f) × (h.layer ≡ Some (layer_number names layer)) × (slice_get names (layer_number names layer) ≡ Some layer)
  Stands (claim_of c) (stated fc) = Has (zip (claims_met t.met) (claims_of (flatten text).items)) (c, fc) × (fc.name ≡ dotted (c.instance ++ c.name ∷ []))
  Stands (map_of layer f) (stated fc) = ⊥
  Stands (claim_of c) (made h) = ⊥

  -- it makes a map, unless it has the base definition of its family
  abbrev pub makes_unit : Mark → Bool
  makes_unit (made h) = is_refinement d h.family h.layer
  makes_unit (stated c) = true

  -- what is the same makes units alike
  pub makes-alike : (x y : Mark) → same_mark x y ≡ true → makes_unit x ≡ makes_unit y
  makes-alike (made h) (made k) e =
      let layer : h.layer ≡ k.layer = one_layer h.layer k.layer (left_of (is_one_layer h.layer k.layer) (nat_eq h.family k.family) e) in
      let family : h.family ≡ k.family = nat_eq-is h.family k.family (right_of (is_one_layer h.layer k.layer) (nat_eq h.family k.family) e) in
      ap (λ j. is_refinement d j h.layer) family ∙ ap (is_refinement d k.family) layer
  makes-alike (made h) (stated c) e = absurd (cc (e))
  makes-alike (stated c) y e = absurd (cc (e))

  module _ (found : FamiliesAreFound text) where
    -- units that count as one stand at assignments that do
    pub alike : (u v : ProofUnit) (x y : Mark) → Stands u x → Stands v y → same_unit u v ≡ same_mark x y
    alike (map_of a f) (map_of b g) (made h) (made k) s r = same_tests (bytes_eq a b && same_path f.path g.path) (same_definition h k) to from
      where
        to : (bytes_eq a b && same_path f.path g.path) ≡ true → same_definition h k ≡ true
        to e =
            let name : a ≡ b = (bytes_eq-Decides a b).0 (left_of (bytes_eq a b) (same_path f.path g.path) e) in
            let path : f.path ≡ g.path = path-equal f.path g.path (right_of (bytes_eq a b) (same_path f.path g.path) e) in
            let layer : h.layer ≡ k.layer = s.1 ∙ ap (λ a. Some (layer_number names a)) name ∙ sym r.1 in
            let family : h.family ≡ k.family = sym (found h.family f s.0).1 ∙ ap (family_number (scope_in text [])) path ∙ (found k.family g r.0).1 in
            and_both (subst (λ o. is_one_layer h.layer o ≡ true) layer (one_layer-same h.layer)) (subst (λ j. nat_eq h.family j ≡ true) family (nat_eq-itself h.family))

        from : same_definition h k ≡ true → (bytes_eq a b && same_path f.path g.path) ≡ true
        from e =
            let layer : h.layer ≡ k.layer = one_layer h.layer k.layer (left_of (is_one_layer h.layer k.layer) (nat_eq h.family k.family) e) in
            let family : h.family ≡ k.family = nat_eq-is h.family k.family (right_of (is_one_layer h.layer k.layer) (nat_eq h.family k.family) e) in
            let number : layer_number names a ≡ layer_number names b = inner (sym s.1 ∙ layer ∙ r.1) in
            let name : a ≡ b = inner (sym s.2 ∙ ap (slice_get names) number ∙ r.2) in
            let one : f ≡ g = inner (sym s.0 ∙ ap (slice_get t.families) family ∙ r.0) in
            and_both ((bytes_eq-Decides a b).1 name) (path-same f.path g.path (ap (λ (f : Family). f.path) one))
    alike (map_of a f) (map_of b g) (made h) (stated c) s r = elim r [ ]
    alike (map_of a f) (map_of b g) (stated c) y s r = elim s [ ]
    alike (map_of a f) (claim_of c) (made h) (made k) s r = elim r [ ]
    alike (map_of a f) (claim_of c) (made h) (stated e) s r = refl
    alike (map_of a f) (claim_of c) (stated e) y s r = elim s [ ]
    alike (claim_of c) (map_of a f) (stated e) y s r = refl
    alike (claim_of c) (map_of a f) (made h) y s r = elim s [ ]
    alike (claim_of c) (claim_of e) (stated g) y s r = refl
    alike (claim_of c) (claim_of e) (made h) y s r = elim s [ ]

  module _ (found : FamiliesAreFound text) (layers : LayersAreSame text) (faultless : IsFaultless d) where
    -- ---- the text and its design make the same maps

    module _ (layer : Name) (there : slice_get names (layer_number names layer) ≡ Some layer) (f : Family) (k : ℕ) (at : slice_get t.families k ≡ Some f) where
      abbrev number : ℕ
      number = layer_number names layer

      abbrev is_base_layer : Base → Bool
      is_base_layer None = false
      is_base_layer (Some other) = is_layer other (Some layer)

      one_name : (b : Name) → bytes_eq b layer ≡ nat_eq (layer_number names b) number
      one_name b = same_tests (bytes_eq b layer) (nat_eq (layer_number names b) number)
          (λ e. subst (λ c. nat_eq (layer_number names b) (layer_number names c) ≡ true) ((bytes_eq-Decides b layer).0 e) (nat_eq-itself (layer_number names b)))
          (λ e. (bytes_eq-Decides b layer).1 (layer-is names b layer (ap (slice_get names) (nat_eq-is (layer_number names b) number e) ∙ there)))

      of_layer : (other : Option Name) (own : Option ℕ) → option_map (layer_number names) other ≡ own → is_layer other (Some layer) ≡ is_in_layer number own
      of_layer None own e = ap (is_in_layer number) e
      of_layer (Some b) own e = one_name b ∙ ap (is_in_layer number) e

      of_bases : (o : Base) (p : Option Def) → IsSameLayer text o p → is_base_layer o ≡ is_base_in number p
      of_bases None None e = refl
      of_bases None (Some def) e = elim e [ ]
      of_bases (Some other) None e = elim e [ ]
      of_bases (Some other) (Some def) e = of_layer other def.layer e

      -- the base definition of a family that is not abstract stands outside layers
      outside : f.is_abstract ≡ false → (o : Option Def) → outline.base_of d k ≡ o → false ≡ is_base_in number o
      outside plain None e = refl
      outside plain (Some def) e =
          let b = base_by d faultless k def e in
          let g = family-flat text k f at in
          let not_abstract : is_abstract d (slice_get d.families def.family) ≡ false = ap (λ j. is_abstract d (slice_get d.families j)) b.0 ∙ (ap (is_abstract d) g.1 ∙ plain) in
          none_there def.layer (b.1.is_outside not_abstract)
        where
          none_there : (o : Option ℕ) → is_none o ≡ true → false ≡ is_in_layer number o
          none_there None e = refl
          none_there (Some j) e = absurd (cc (e))

      same-base : is_base_layer (base_of t f) ≡ is_base_in number (outline.base_of d k)
      same-base = by_kind f.is_abstract refl
        where
          by_kind : (b : Bool) → f.is_abstract ≡ b → is_base_layer (base_of t f) ≡ is_base_in number (outline.base_of d k)
          by_kind true e = of_bases (base_of t f) (outline.base_of d k) (layers k f at e)
          by_kind false e = ap (λ b. is_base_layer (cond b (layer_that_defines f.path t.met) (Some None))) e ∙ outside e (outline.base_of d k) refl

    -- ---- a statement

    -- an assignment of the text, and one of the flattened text
    pub record IsMade (number : Option ℕ) (a : Assigned) (h : Head) : Type 0 where
      pub layer : h.layer ≡ number
      pub family : h.family ≡ family_number (scope_in text []) a.path
      pub led : (f : Family) × (slice_get t.families h.family ≡ Some f)

    outside_layers : (hs : List Head) (as' : List Assigned) → AllZip (IsMade None) as' hs → filter makes_unit (map made hs) ≡ []
    outside_layers [] [] m = refl
    outside_layers [] (a ∷ as') m = refl
    outside_layers (h ∷ hs) [] m = elim m [ ]
    outside_layers (h ∷ hs) (a ∷ as') m =
        let none : is_refinement d h.family h.layer ≡ false = ap (is_refinement d h.family) (m.0.layer) in
        ap (λ b. cond b (made h ∷ filter makes_unit (map made hs)) (filter makes_unit (map made hs))) none ∙ outside_layers hs as' m.1

    module _ (layer : Name) (there : slice_get names (layer_number names layer) ≡ Some layer) where
      abbrev own_maps : Assigned → List ProofUnit
      own_maps a = flat_map (map_unless_base t layer) (option_to_list (family_at t.families a.path))

      in_layer : (as' : List Assigned) (hs : List Head) → AllZip (IsMade (Some (layer_number names layer))) as' hs → AllZip Stands (flat_map own_maps as') (filter makes_unit (map made hs))
      in_layer [] [] m = tt
      in_layer [] (h ∷ hs) m = elim m [ ]
      in_layer (a ∷ as') [] m = elim m [ ]
      in_layer (a ∷ as') (h ∷ hs) m =
          let f = m.0.led.0 in
          let at : slice_get t.families h.family ≡ Some f = m.0.led.1 in
          let to : family_at t.families a.path ≡ Some f = family-of-path text found a.path f (subst (λ k. slice_get t.families k ≡ Some f) m.0.family at) in
          let refines : is_refinement d h.family h.layer ≡ not (is_base_layer layer there f h.family at (base_of t f)) = ap (is_refinement d h.family) m.0.layer ∙ ap not (sym (same-base layer there f h.family at)) in
          subst (λ o. AllZip Stands (flat_map (map_unless_base t layer) (option_to_list o) ++ flat_map own_maps as') (filter makes_unit (map made (h ∷ hs)))) (sym to)
          (subst (λ b. AllZip Stands ((map_unless_base t layer f ++ []) ++ flat_map own_maps as') (cond b (made h ∷ filter makes_unit (map made hs)) (filter makes_unit (map made hs)))) (sym refines)
          (by_base f at (is_base_layer layer there f h.family at (base_of t f)) (in_layer as' hs m.1)))
        where
          by_base : (f : Family) → slice_get t.families h.family ≡ Some f → (b : Bool) → AllZip Stands (flat_map own_maps as') (filter makes_unit (map made hs)) →
              AllZip Stands ((cond b [] (map_of layer f ∷ []) ++ []) ++ flat_map own_maps as') (cond (not b) (made h ∷ filter makes_unit (map made hs)) (filter makes_unit (map made hs)))
          by_base f at true rest = rest
          by_base f at false rest = ((at, m.0.layer, there), rest)

    in_statement : (o : Option Name) → IsListed names o → (as' : List Assigned) (hs : List Head) → AllZip (IsMade (option_map (layer_number names) o)) as' hs → AllZip Stands (maps_of t o as') (filter makes_unit (map made hs))
    in_statement None h as' hs m = subst (AllZip Stands []) (sym (outside_layers hs as' m)) tt
    in_statement (Some layer) h as' hs m = in_layer layer (layer-there names layer h) as' hs m

    -- the assignments of a statement in the forms that its flattened form has
    made-heads : (number : Option ℕ) (as' : List Assigned) (ss : List Standing) (bs : List FlatAssigned) (k : ℕ) → AllZip (IsSameAssigned (scope_in text [])) as' bs → AllZip (IsOne number) ss bs →
        ((a : Standing) → Has ss a → (f : Family) × (slice_get t.families a.family ≡ Some f)) → AllZip (IsMade number) as' (map (λ (a, k). head a k) (zip ss (numbers_from k (length bs))))
    made-heads number [] [] [] k same one led = tt
    made-heads number [] (s ∷ ss) [] k same one led = elim one [ ]
    made-heads number (a ∷ as') ss [] k same one led = elim same [ ]
    made-heads number [] ss (b ∷ bs) k same one led = elim same [ ]
    made-heads number (a ∷ as') [] (b ∷ bs) k same one led = elim one [ ]
    made-heads number (a ∷ as') (s ∷ ss) (b ∷ bs) k same one led =
        (record { layer = one.0.0; family = one.0.1 ∙ same.0; led = led s first }, made-heads number as' ss bs (k + 1) same.1 one.1 (λ a h. led a (later h)))

    -- ---- the text

    abbrev Leads : ℕ → List FlatItem → Type 0
    Leads k items = (a : Standing) → Has (flat_map assigned_by (statements_from k items)) a → (f : Family) × (slice_get t.families a.family ≡ Some f)

    abbrev AreThere : List Met → List FlatItem → Type 0
    AreThere ms items = (p : Claimed × FlatClaim) → Has (zip (claims_met ms) (claims_of items)) p → Has (zip (claims_met t.met) (claims_of (flatten text).items)) p

    abbrev items_at : ℕ → List Entry → List FlatItem
    items_at k es = with_places k (flat_map (flat_entry text names) es)

    pub meets : (k : ℕ) (es : List Entry) (ms : List Met) → AreAlike es ms → AreListed names es → Leads k (items_at k es) → AreThere ms (items_at k es) →
        AllZip Stands (flat_map (units_met t) ms) (filter makes_unit (marks k (items_at k es)))
    meets k [] [] h listed leads there = tt
    meets k [] (m ∷ ms) h listed leads there = elim h [ ]
    meets k (layer_head name ∷ es) ms h listed leads there = meets k es ms h listed leads there
    meets k (goal i binders (split word vars of pairs at) ∷ es) ms h listed leads there = meets k es ms h listed leads there
    meets k (goal i binders (using uses proves at) ∷ es) ms h listed leads there = meets k es ms h listed leads there
    meets k (goal i binders (claim word vars body at) ∷ es) [] h listed leads there = elim h [ ]
    meets k (goal i binders (claim word vars body at) ∷ es) (said y ∷ ms) h listed leads there = elim h [ ]
    meets k (goal i binders (claim word vars body at) ∷ es) (claimed c ∷ ms) h listed leads there =
        ((there _ first, ap (λ i. dotted (i ++ word.name ∷ [])) h.0 ∙ ap (λ n. dotted (c.instance ++ n ∷ [])) h.3), meets (k + 1) es ms h.4 listed leads (λ p m. there p (later m)))
    meets k (statement y ∷ es) [] h listed leads there = elim h [ ]
    meets k (statement y ∷ es) (claimed c ∷ ms) h listed leads there = elim h [ ]
    meets k (statement y ∷ es) (said z ∷ ms) h listed leads there =
        let act : FlatStmt = flat_stmt (scope_in text y.instance) [] y.act in
        let number : Option ℕ = option_map (layer_number names) y.layer in
        let same : AllZip (IsSameAssigned (scope_in text [])) (assignments_in z) (flat_assignments act) =
        subst (λ as'. AllZip (IsSameAssigned (scope_in text [])) as' (flat_assignments act)) (h.2.1 y.instance [] ∙ ap (λ i. assignments i z.act []) h.1) (same-assigned (scope_in text y.instance) [] y.act) in
        let own : AllZip (IsMade number) (assignments_in z) (heads_of (statement_at k number act)) =
        made-heads number (assignments_in z) (assigned_by (statement_at k number act)) (flat_assignments act) k same (standing-one number [] act)
        (λ a m. leads a (Has-left (flat_map assigned_by (statements_from (k + count act) (items_at (k + count act) es))) m)) in
        let here : AllZip Stands (maps_of t z.layer (assignments_in z)) (filter makes_unit (map made (heads_of (statement_at k number act)))) =
        subst (λ o. AllZip Stands (maps_of t o (assignments_in z)) (filter makes_unit (map made (heads_of (statement_at k number act))))) h.0 (in_statement y.layer listed.0 (assignments_in z) (heads_of (statement_at k number act)) own) in
        subst (AllZip Stands (maps_of t z.layer (assignments_in z) ++ flat_map (units_met t) ms)) (sym (filter-append makes_unit (map made (heads_of (statement_at k number act))) (marks (k + count act) (items_at (k + count act) es))))
        (zip-append Stands (maps_of t z.layer (assignments_in z)) (filter makes_unit (map made (heads_of (statement_at k number act)))) (flat_map (units_met t) ms) (filter makes_unit (marks (k + count act) (items_at (k + count act) es)))
        here (meets (k + count act) es ms h.3 listed.1
        (λ a m. leads a (Has-right (assigned_by (statement_at k number act)) m)) there))
