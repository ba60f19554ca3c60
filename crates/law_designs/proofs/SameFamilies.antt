-- The families of the flattened text are those of the design, in the same order.
use Rattle.std.proofs.Common.{◌≡◌, ℕ, zero, suc, List, [], ◌∷◌, ◌++◌, map, length, All, refl, sym, subst}
use Rattle.std.specs.List.{AllZip}
use Rattle.std.proofs.lemmas.List.Elements.{All-head, All-tail}
use Rattle.law_lists.proofs.Lists.{map-flat_map_by, map-map_by}
use Rattle.smv_core.specs.Values.{Name, Path, Simple, Sizes}
use Rattle.smv_core.specs.FlatMeaning.{simple_in}
use Rattle.smv_core.specs.Types.{Types, Family, shape_of, types_from}
use Rattle.smv_core.specs.FlatOrder.{Body, families_of_item, families_in, body_of, modules, main, declared_as, design_of}
use Rattle.smv_core.specs.declared.tree.Text.{Text}
use Rattle.smv_core.specs.declared.tree.Item.{Item, Declare, Instance}
use Rattle.law_designs.specs.Numbers.{flat_simple}
use Rattle.law_designs.specs.Entries.{placed_of_item, placed_in, placed_families}
use Rattle.law_designs.specs.Flattening.{scope_in, flatten, flat_family}
use Rattle.law_designs.specs.Agreement.{IsSameFamily, numbers_in}
use Rattle.law_designs.proofs.Numbered.{IsNumbered, HasNumbers, AreNumbered}

module _ (types : Types) (bodies : List (Name × Body)) where
  placed-item : (inside : Path → Name → List (Family × ℕ)) (own : Path → Name → List Family) → ((here : Path) (name : Name) → map (λ (f, at). f) (inside here name) ≡ own here name) →
      (here : Path) (item : Item) → map (λ (f, at). f) (placed_of_item types bodies inside here item) ≡ families_of_item types bodies own here item
  placed-item inside own h here (Declare role words of at) =
      map-flat_map_by (λ (f, at). f) (λ word. map (λ f. (declared_as role (here ++ word.name ∷ []) f, word.at)) (shape_of types of)) (λ word. map (declared_as role (here ++ word.name ∷ [])) (shape_of types of))
      (λ word. map-map_by (λ (f, at). f) (λ f. (declared_as role (here ++ word.name ∷ []) f, word.at)) (declared_as role (here ++ word.name ∷ [])) (λ f. refl) (shape_of types of)) words
  placed-item inside own h here (Instance words name args at) =
      map-flat_map_by (λ (f, at). f) (λ word. inside (here ++ word.name ∷ []) name.name) (λ word. own (here ++ word.name ∷ []) name.name) (λ word. h (here ++ word.name ∷ []) name.name) words
  placed-item inside own h here _ = refl

  placed-same : (k : ℕ) (here : Path) (name : Name) → map (λ (f, at). f) (placed_in types bodies k here name) ≡ families_in types bodies k here name
  placed-same zero here name = refl
  placed-same (suc k) here name =
      map-flat_map_by (λ (f, at). f) (placed_of_item types bodies (placed_in types bodies k) here) (families_of_item types bodies (families_in types bodies k) here)
      (placed-item (placed_in types bodies k) (families_in types bodies k) (placed-same k) here) (body_of types bodies name).items

pub families-same : (text : Text) → map (λ (f, at). f) (placed_families text) ≡ (design_of text).families
families-same text = placed-same (types_from [] text.tops) (modules text.tops) (length (modules text.tops)) [] main

-- ---- types

module _ (text : Text) (sizes : Sizes) where
  abbrev IsFamilyNumbered : Family → Type 0
  IsFamilyNumbered = HasNumbers (scope_in text []) (numbers_in text sizes)

  index_types-same : (over : List Simple) → All (IsNumbered (scope_in text []) (numbers_in text sizes)) over → map (simple_in (numbers_in text sizes)) (map (flat_simple (scope_in text [])) over) ≡ over
  index_types-same [] h = refl
  index_types-same (u ∷ over) h =
      let head : simple_in (numbers_in text sizes) (flat_simple (scope_in text []) u) ≡ u = All-head (IsNumbered (scope_in text []) (numbers_in text sizes)) u over h in
      rw (head, index_types-same over (All-tail (IsNumbered (scope_in text []) (numbers_in text sizes)) u over h)) refl

  each-same : (placed : List (Family × ℕ)) → All IsFamilyNumbered (map (λ (f, at). f) placed) → AllZip (IsSameFamily (numbers_in text sizes)) (map (flat_family (scope_in text [])) placed) (map (λ (f, at). f) placed)
  each-same [] h = tt
  each-same ((f, at) ∷ placed) h =
      let own : IsFamilyNumbered f = All-head IsFamilyNumbered f (map (λ (f, at). f) placed) h in
      ((refl, index_types-same f.over own.1, own.0, refl), each-same placed (All-tail IsFamilyNumbered f (map (λ (f, at). f) placed) h))

  pub families_of_text : AreNumbered text sizes → AllZip (IsSameFamily (numbers_in text sizes)) (flatten text).families (design_of text).families
  families_of_text numbers =
      subst (λ fs. AllZip (IsSameFamily (numbers_in text sizes)) (flatten text).families fs) (families-same text)
      (each-same (placed_families text) (subst (λ fs. All IsFamilyNumbered fs) (sym (families-same text)) numbers.0))
