-- The name of each unit is visible.
use Rattle.std.proofs.Common.{◌≡◌, ℕ, zero, suc, ◌+◌, List, [], ◌∷◌, ◌++◌, flat_map, length, Option, Some, None, Bool, true, not, refl, sym, subst, slice_get}
use Rattle.std.specs.Prelude.{option_and_then}
use Rattle.std.specs.Str.{bytes_eq}
use Rattle.std.specs.List.{AllByRecursion}
use Rattle.law_lists.proofs.Each.{each_filter}
use Rattle.smv_core.specs.Values.{Name}
use Rattle.smv_core.specs.Types.{Family}
use Rattle.smv_core.specs.declared.flat.Family.{Family as FlatFamily}
use Rattle.smv_core.specs.declared.flat.Claim.{Claim as FlatClaim}
use Rattle.smv_core.specs.declared.flat.Def.{Def}
use Rattle.smv_core.specs.declared.flat.Design.{Design}
use Rattle.smv_core.specs.declared.flat.Unit.{Unit as DesignUnit}
use Rattle.smv_core.specs.declared.flat.Unit.TheVariants.{Map, Claim}
use Rattle.smv_core.specs.declared.flat.FlatItem.{FlatItem}
use Rattle.smv_core.specs.declared.flat.FlatItem.TheVariants as item
use Rattle.smv_core.specs.declared.tree.Text.{Text}
use Rattle.law_designs.specs.Entries.{Entry, layer, statement, goal, claim, split, using, placed_families, entries}
use Rattle.law_designs.specs.Flattening.{different, layer_of, layers_of, scope_in, flat_family, with_places, flat_assignments, flat_entry, flatten}
use Rattle.law_designs.specs.WholeText.{claims_of}
use Rattle.law_designs.specs.Definitions.{design_of_flat_text}
use Rattle.law_designs.proofs.Faultless.{each-map}
use Rattle.law_obligations.specs.Sets.{Has}
use Rattle.law_obligations.specs.Outlines.{unit_in, as_map, as_claim}
use Rattle.law_obligations.specs.Units.{units_of}
use Rattle.law_obligations.proofs.OneOfEach.{get_Has}
use Rattle.law_splits.specs.Leaves.{in_layer, name_of_family, name_of}
use Rattle.law_sound_texts.specs.Exact.{DefinitionsAreFree}
use Rattle.law_sound_texts.proofs.Units.{IsOfDesign, unit-of}
use Rattle.law_unit_names.specs.Names.{is_visible_name}
use Rattle.law_unit_names.proofs.Trees.{IsNamed, TextIsNamed}
use Rattle.law_unit_names.proofs.Paths.{IsPath, each-flat_map, families-named, path-of}
use Rattle.law_unit_names.proofs.NamedEntries.{EntryIsNamed, AreNamedEntries, entries-named}
use Rattle.law_unit_names.proofs.Dotted.{word-visible, bytes-of, name-before, dotted-visible}

at-each : {X : Type 0} (P : X → Type 0) (xs : List X) → AllByRecursion P xs → (k : ℕ) (x : X) → slice_get xs k ≡ Some x → P x
at-each P [] all k x e = absurd (cc (e))
at-each P (y ∷ xs) all zero x e = let same : y ≡ x = cc in subst P same all.0
at-each P (y ∷ xs) all (suc k) x e = at-each P xs all.1 k x e

-- ---- what is listed in front

abbrev FamilyIsVisible : FlatFamily → Type 0
FamilyIsVisible f = is_visible_name f.name ≡ true

families-visible : (text : Text) → TextIsNamed text → AllByRecursion FamilyIsVisible (flatten text).families
families-visible text h =
    each-map (λ (p : Family × ℕ). IsPath p.0.path) FamilyIsVisible (flat_family (scope_in text [])) (λ p k. dotted-visible p.0.path k) (placed_families text) (families-named text h)

different-each : {X : Type 0} (P : X → Type 0) (same : X → X → Bool) (xs : List X) → AllByRecursion P xs → AllByRecursion P (different same xs)
different-each P same [] all = tt
different-each P same (x ∷ xs) all = (all.0, each_filter P (λ y. not (same x y)) (different same xs) (different-each P same xs all.1))

layers-named : (es : List Entry) → AreNamedEntries es → AllByRecursion IsNamed (layers_of es)
layers-named es h = different-each IsNamed bytes_eq (flat_map layer_of es) (each-flat_map EntryIsNamed IsNamed layer_of of_entry es h)
  where
    of_entry : (e : Entry) → EntryIsNamed e → AllByRecursion IsNamed (layer_of e)
    of_entry (layer name) k = (k, tt)
    of_entry (statement x) k = tt
    of_entry (goal instance binders g) k = tt

-- ---- claims

abbrev ClaimIsVisible : FlatClaim → Type 0
ClaimIsVisible c = is_visible_name c.name ≡ true

abbrev FlatItemIsVisible : FlatItem → Type 0
FlatItemIsVisible (item.Claim c) = ClaimIsVisible c
FlatItemIsVisible _ = Unit {0}

entry-visible : (text : Text) (layers : List Name) (e : Entry) → EntryIsNamed e → AllByRecursion FlatItemIsVisible (flat_entry text layers e)
entry-visible text layers (layer name) k = tt
entry-visible text layers (statement x) k = (tt, tt)
entry-visible text layers (goal instance binders (claim word vars body at)) k = (dotted-visible (instance ++ word.name ∷ []) (path-of instance k.0 word.name k.1), tt)
entry-visible text layers (goal instance binders (split word vars of pairs at)) k = (tt, tt)
entry-visible text layers (goal instance binders (using uses proves at)) k = (tt, tt)

placed-visible : (k : ℕ) (items : List FlatItem) → AllByRecursion FlatItemIsVisible items → AllByRecursion ClaimIsVisible (claims_of (with_places k items))
placed-visible k [] all = tt
placed-visible k (item.Act number act ∷ items) all = placed-visible (k + length (flat_assignments act)) items all.1
placed-visible k (item.Claim c ∷ items) all = (all.0, placed-visible (k + 1) items all.1)
placed-visible k (item.Split s ∷ items) all = placed-visible k items all.1
placed-visible k (item.Using u ∷ items) all = placed-visible k items all.1

claims-visible : (text : Text) → TextIsNamed text → AllByRecursion ClaimIsVisible (claims_of (flatten text).items)
claims-visible text h =
    let es = entries-named text h in
    placed-visible 0 (flat_map (flat_entry text (layers_of (entries text))) (entries text))
    (each-flat_map EntryIsNamed FlatItemIsVisible (flat_entry text (layers_of (entries text))) (entry-visible text (layers_of (entries text))) (entries text) es)

-- ---- units

-- a family's name, and that of its layer if it has one
in_layer-visible : (name : Name) → is_visible_name name ≡ true → (o : Option Name) → ((l : Name) → o ≡ Some l → IsNamed l) → is_visible_name (in_layer name o) ≡ true
in_layer-visible name h None k = h
in_layer-visible name h (Some l) k = name-before name h (47 ∷ 47 ∷ l) (bytes-of l (word-visible l (k l refl)))

layer-found : (layers : List Name) → AllByRecursion IsNamed layers → (o : Option ℕ) (l : Name) → option_and_then (slice_get layers) o ≡ Some l → IsNamed l
layer-found layers all None l e = absurd (cc (e))
layer-found layers all (Some k) l e = at-each IsNamed layers all k l e

module _ (text : Text) (h : TextIsNamed text) (free : DefinitionsAreFree (design_of_flat_text (flatten text))) where
  abbrev d : Design
  d = design_of_flat_text (flatten text)

  map-visible : (k : ℕ) (def : Def) → slice_get d.defs k ≡ Some def → is_visible_name (in_layer (name_of_family (slice_get d.families def.family)) (option_and_then (slice_get d.layers) def.layer)) ≡ true
  map-visible k def e =
      let f = free def (get_Has d.defs k def e) in
      in_layer-visible (name_of_family (slice_get d.families def.family)) (subst (λ o. is_visible_name (name_of_family o) ≡ true) (sym f.1) (at-each FamilyIsVisible d.families (families-visible text h) def.family f.0 f.1)) (option_and_then (slice_get d.layers) def.layer)
      (λ l is. layer-found d.layers (layers-named (entries text) (entries-named text h)) def.layer l is)

  unit-visible : (u : DesignUnit) → IsOfDesign d u → is_visible_name (name_of d (unit_in d u)) ≡ true
  unit-visible (Map k) (def, e, is) = subst (λ o. is_visible_name (name_of d (as_map o)) ≡ true) (sym e) (map-visible k def e)
  unit-visible (Claim k) (c, e) = subst (λ o. is_visible_name (name_of d (as_claim o)) ≡ true) (sym e) (at-each ClaimIsVisible d.claims (claims-visible text h) k c e)

  pub units-visible : (u : DesignUnit) → Has (units_of d) u → is_visible_name (name_of d (unit_in d u)) ≡ true
  units-visible u i = unit-visible u (unit-of d u i)
