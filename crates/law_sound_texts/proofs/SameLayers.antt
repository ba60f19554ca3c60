-- The layer that defines an abstract family first in a text is that of its base definition in the design.
use Rattle.std.proofs.Common.{◌≡◌, ℕ, ◌+◌, List, [], ◌∷◌, ◌++◌, flat_map, find, Option, Some, None, option_map, is_some, is_none, Bool, true, false, ◌&&◌, ◌||◌, cond, nat_eq, refl, sym, ap, subst, ◌∙◌, slice_get}
use Rattle.std.specs.List.{AllZip}
use Rattle.law_lists.proofs.Booleans.{clash, right_of}
use Rattle.law_lists.proofs.Lists.{map-nil}
use Rattle.law_lists.proofs.Numbers.{nat_eq-is}
use Rattle.smv_core.specs.FlatOrder.{Said, design_of}
use Rattle.smv_core.specs.Values.{Name, Sizes}
use Rattle.smv_core.specs.Allowed.{layer_that_defines, said_in, is_defined_by}
use Rattle.smv_core.specs.declared.tree.Text.{Text}
use Rattle.smv_core.specs.declared.flat.Family.{Family as FlatFamily}
use Rattle.smv_core.specs.declared.flat.FlatItem.{FlatItem}
use Rattle.smv_core.specs.declared.flat.FlatItem.TheVariants as item
use Rattle.smv_core.specs.declared.flat.Def.{Def}
use Rattle.smv_core.specs.declared.flat.FlatText.{FlatText}
use Rattle.smv_core.specs.declared.flat.Design.{Design as FlatDesign}
use Rattle.smv_mentions.specs.FirstFault.{faults_at}
use Rattle.law_designs.specs.Agreement.{IsSameFamily, numbers_in}
use Rattle.law_designs.specs.Flattening.{flatten, layer_number}
use Rattle.law_designs.specs.SameActs.{IsSameAct, layered_acts}
use Rattle.law_designs.specs.WholeText.{is_one_layer}
use Rattle.law_designs.specs.Standing.{count, Statement, statements_from, statements_of}
use Rattle.law_designs.specs.Definitions.{Head, heads_of, same_definition, first_heads, def_of, design_of_flat_text}
use Rattle.law_designs.specs.Laws.{AreInOrder}
use Rattle.law_obligations.specs.Sets.{Has}
use Rattle.law_obligations.specs.Outlines as outline
use Rattle.law_obligations.specs.Outlines.{may_be_base}
use Rattle.law_obligations.proofs.Lookups.{find-some, Has-filter}
use Rattle.law_obligations.proofs.Members.{Has-map, Has-flat_map}
use Rattle.law_designs.specs.Reading.{Reading}
use Rattle.law_designs.specs.LayerFaults.{is_abstract, assignments_of, outside_layers, leaking, assigned_outside}
use Rattle.law_designs.specs.FirstFault.{first_fault_of_layers}
use Rattle.law_designs.proofs.Faultless.{no_fault-in}
use Rattle.law_sound_texts.specs.TextExtension.{IsSameLayer, LayersAreSame}
use Rattle.law_flat_kinds.specs.FamiliesFound.{FamiliesAreFound}
use Rattle.law_flat_kinds.proofs.Lists.{none_passes}
use Rattle.law_sound_texts.proofs.Faultless.{is_its}
use Rattle.law_sound_texts.proofs.Texts.{zip_right}
use Rattle.law_sound_texts.proofs.FirstFound.{FindAlike, find-zip, find-map, find-same, find-both, find-neither, find-different, earliest-is-first}
use Rattle.law_sound_texts.proofs.FirstHeads.{IsAt, is_head_of, assigns, first-head, has_assignment}
use Rattle.law_flat_kinds.proofs.NoFaults.{nil-left, nil-right}

-- the statements beside those of the text
pub statements-zip : (text : Text) (k : ℕ) (items : List FlatItem) (said : List Said) → AllZip (IsSameAct text) (layered_acts items) said → AllZip (λ (s : Statement) x. IsSameAct text (s.layer, s.act) x) (statements_from k items) said
statements-zip text k [] [] h = tt
statements-zip text k [] (x ∷ said) h = elim h [ ]
statements-zip text k (item.Act layer act ∷ items) [] h = elim h [ ]
statements-zip text k (item.Act layer act ∷ items) (x ∷ said) h = (h.0, statements-zip text (k + count act) items said h.1)
statements-zip text k (item.Claim c ∷ items) said h = statements-zip text (k + 1) items said h
statements-zip text k (item.Split c ∷ items) said h = statements-zip text k items said h
statements-zip text k (item.Using c ∷ items) said h = statements-zip text k items said h

-- no abstract signal is assigned outside layers
no-outside : (d : FlatDesign) → first_fault_of_layers d ≡ None → (def : Def) → Has d.defs def → def.layer ≡ None → (a : Reading) → Has (assignments_of def) a → is_abstract d (slice_get d.families def.family) ≡ false
no-outside d none def there outside a m =
    let faults : faults_at (19, leaking d) ++ (faults_at (20, assigned_outside d) ++ []) ≡ [] = no_fault-in _ none in
    let empty : assigned_outside d ≡ [] = map-nil _ (assigned_outside d) (nil-left (faults_at (20, assigned_outside d)) [] (nil-right (faults_at (19, leaking d)) (faults_at (20, assigned_outside d) ++ []) faults)) in
    subst (λ k. is_abstract d (slice_get d.families k) ≡ false) (is_its def a m)
    (none_passes (λ (a : Reading). is_abstract d (slice_get d.families a.family)) (outside_layers d) (map-nil _ _ empty) a (Has-flat_map assignments_of (Has-filter (λ (def : Def). is_none def.layer) there (ap is_none outside)) m))

-- the first assignment of a family
abbrev first_assigned : FlatText → ℕ → Option Head
first_assigned flat_text k = find (is_head_of k) (flat_map heads_of (statements_of flat_text))

-- the first statement that assigns it
abbrev first_statement : FlatText → ℕ → Option Statement
first_statement flat_text k = find (assigns k) (statements_of flat_text)

module _ (flat_text : FlatText) (ordered : AreInOrder (design_of_flat_text flat_text).defs) (k : ℕ) (g : FlatFamily) (there : slice_get flat_text.families k ≡ Some g) (abstract_one : g.is_abstract ≡ true) where
  heads-found : find (is_head_of k) (first_heads flat_text) ≡ first_assigned flat_text k
  heads-found = find-different same_definition (is_head_of k) alike (flat_map heads_of (statements_of flat_text))
    where
      alike : (a b : Head) → same_definition a b ≡ true → is_head_of k a ≡ is_head_of k b
      alike a b e = ap (λ j. nat_eq j k) (nat_eq-is a.family b.family (right_of (is_one_layer a.layer b.layer) (nat_eq a.family b.family) e))

  -- the base definition is made from it
  base-is : outline.base_of (design_of_flat_text flat_text) k ≡ option_map (def_of flat_text) (first_assigned flat_text k)
  base-is =
      earliest-is-first (may_be_base (design_of_flat_text flat_text) k (slice_get flat_text.families k)) (design_of_flat_text flat_text).defs ordered
      ∙ find-same (may_be_base (design_of_flat_text flat_text) k (slice_get flat_text.families k)) (λ def. nat_eq def.family k) may (design_of_flat_text flat_text).defs
      ∙ find-map (λ def. nat_eq def.family k) (def_of flat_text) (first_heads flat_text)
      ∙ ap (option_map (def_of flat_text)) heads-found
    where
      and-true : (b c d : Bool) → c ≡ true → (b && (c || d)) ≡ b
      and-true true c d e = ap (λ c. c || d) e
      and-true false c d e = refl

      may : (def : Def) → may_be_base (design_of_flat_text flat_text) k (slice_get flat_text.families k) def ≡ nat_eq def.family k
      may def = ap (λ o. may_be_base (design_of_flat_text flat_text) k o def) there ∙ and-true (nat_eq def.family k) g.is_abstract (is_none def.layer) abstract_one

  -- its statement stands in a layer, where no abstract signal is assigned outside layers
  layered : first_fault_of_layers (design_of_flat_text flat_text) ≡ None → (h : Head) → first_assigned flat_text k ≡ Some h → (s : Statement) → first_statement flat_text k ≡ Some s → h.layer ≡ s.layer → s.layer ≡ None → ⊥
  layered none h is s first_one here outside =
      let head_there : Has (first_heads flat_text) h × (is_head_of k h ≡ true) = find-some (is_head_of k) (first_heads flat_text) (heads-found ∙ is) in
      let own : h.family ≡ k = nat_eq-is h.family k head_there.1 in
      let found : Has (statements_of flat_text) s × (assigns k s ≡ true) = find-some (assigns k) (statements_of flat_text) first_one in
      let a : (a : Reading) × Has (assignments_of (def_of flat_text h)) a = has_assignment flat_text h s found.0 here (subst (λ j. assigns j s ≡ true) (sym own) found.1) in
      clash (ap (is_abstract (design_of_flat_text flat_text)) (ap (slice_get flat_text.families) own ∙ there) ∙ abstract_one)
      (no-outside (design_of_flat_text flat_text) none (def_of flat_text h) (Has-map (def_of flat_text) head_there.0) (here ∙ outside) a.0 a.1)

module _ (text : Text) (sizes : Sizes) (families : AllZip (IsSameFamily (numbers_in text sizes)) (flatten text).families (design_of text).families) (found : FamiliesAreFound text)
    (acts : AllZip (IsSameAct text) (layered_acts (flatten text).items) (flat_map said_in (design_of text).met)) (ordered : AreInOrder (design_of_flat_text (flatten text)).defs)
    (none : first_fault_of_layers (design_of_flat_text (flatten text)) ≡ None) where
  abbrev flat_text : FlatText
  flat_text = flatten text

  abbrev said : List Said
  said = flat_map said_in (design_of text).met

  abbrev Beside : Statement → Said → Type 0
  Beside s x = IsSameAct text (s.layer, s.act) x

  pub same_layers : LayersAreSame text
  same_layers k f is is_abs =
      let g : (g : FlatFamily) × (slice_get flat_text.families k ≡ Some g) × IsSameFamily (numbers_in text sizes) g f = zip_right (IsSameFamily (numbers_in text sizes)) flat_text.families (design_of text).families families k f is in
      let beside : FindAlike Beside (first_statement flat_text k) (find (is_defined_by f.path) said) =
      find-zip Beside (assigns k) (is_defined_by f.path) (λ s x same. ap (λ j. assigns j s) (sym (found k f is).1) ∙ same.1 f.path f (found k f is).0) (statements_of flat_text) said (statements-zip text 0 flat_text.items said acts) in
      subst (λ b. IsSameLayer text b (outline.base_of (design_of_flat_text flat_text) k)) (ap (λ b. cond b (layer_that_defines f.path (design_of text).met) (Some None)) (sym is_abs))
      (subst (IsSameLayer text (layer_that_defines f.path (design_of text).met)) (sym (base-is flat_text ordered k g.0 g.1 (g.2.3 ∙ is_abs)))
      (by_found (first_assigned flat_text k) (first_statement flat_text k) (find (is_defined_by f.path) said) refl refl refl (first-head k (statements_of flat_text)) beside
      (layered flat_text ordered k g.0 g.1 (g.2.3 ∙ is_abs) none)))
    where
      by_found : (o : Option Head) (p : Option Statement) (q : Option Said) → first_assigned flat_text k ≡ o → first_statement flat_text k ≡ p → find (is_defined_by f.path) said ≡ q → FindAlike IsAt o p → FindAlike Beside p q →
          ((h : Head) → first_assigned flat_text k ≡ Some h → (s : Statement) → first_statement flat_text k ≡ Some s → h.layer ≡ s.layer → s.layer ≡ None → ⊥) →
          IsSameLayer text (layer_that_defines f.path (design_of text).met) (option_map (def_of flat_text) o)
      by_found None None None eo ep eq at beside in_layer = subst (λ o. IsSameLayer text (option_map (λ (x : Said). x.layer) o) None) (sym (find-neither (λ (x : Said). is_some x.layer) (is_defined_by f.path) said eq)) tt
      by_found None None (Some x) eo ep eq at beside in_layer = elim beside [ ]
      by_found None (Some s) q eo ep eq at beside in_layer = elim at [ ]
      by_found (Some h) None q eo ep eq at beside in_layer = elim at [ ]
      by_found (Some h) (Some s) None eo ep eq at beside in_layer = elim beside [ ]
      by_found (Some h) (Some s) (Some x) eo ep eq at beside in_layer = by_layer x.layer refl
        where
          by_layer : (l : Option Name) → x.layer ≡ l → IsSameLayer text (layer_that_defines f.path (design_of text).met) (Some (def_of flat_text h))
          by_layer None e = absurd (in_layer h eo s ep at (beside.0 ∙ ap (option_map (layer_number flat_text.layers)) e))
          by_layer (Some name) e =
              subst (λ o. IsSameLayer text (option_map (λ (x : Said). x.layer) o) (Some (def_of flat_text h))) (sym (find-both (λ (x : Said). is_some x.layer) (is_defined_by f.path) said x eq (ap is_some e)))
              (sym (at ∙ beside.0))
