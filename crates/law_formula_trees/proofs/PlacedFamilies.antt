-- The families of the monitors of a translation.
use Rattle.law_formula_trees.proofs.Lists.{AllKept, drop-all, each-unit, left-flat}
use Rattle.std.proofs.lemmas.List.Folds.{flat_map-map}
use Rattle.law_lists.proofs.Lists.{flat_map-flat_map, length_map}
use Rattle.std.proofs.Common.{◌≡◌, ℕ, zero, suc, List, [], ◌∷◌, ◌++◌, map, filter, length, Bool, true, not, cond, refl, sym, ap, ◌∙◌, append-nil, append_assoc}
use Rattle.std.specs.Str.{bytes_eq}
use Rattle.std.specs.List.{AllByRecursion, list_any, flat_map}
use Rattle.std.proofs.lemmas.List.Elements.{filter-append}
use Rattle.std.proofs.lemmas.Grind.{flat_map-append}
use Rattle.smv_core.specs.Values.{Name, Path}
use Rattle.smv_core.specs.Types.{Types, Family, Shape, shape_of, types_from}
use Rattle.smv_core.specs.FlatOrder.{Body, modules, main, design_of, declared_as, families_of_item, body_of, families_in}
use Rattle.smv_core.specs.declared.tree.Role.TheVariants.{Abstract}
use Rattle.smv_core.specs.declared.tree.Item.{Item, Declare, Instance, Layer, Forall', Block', Claim, Split, Using, Act, end_of-Item, more_of-Item}
use Rattle.law_formulas.specs.Monitors.{Watched, Around, word_of, type_of, declared, defined, translated_item, watched_in, with_layer, translated_top}
use Rattle.law_watched_runs.specs.Extended.{is_fresh, is_kept}
use Rattle.law_formula_trees.specs.Placed.{AreFreshMonitors, AreOldFamilies, Placed, placed_item, placed_in, declared_at}
use Rattle.law_formula_trees.specs.Trees.{MonitorsArePlaced}
use Rattle.law_places.proofs.Computing.{computing}
use Rattle.law_formula_trees.proofs.SameTrees.{types-same, new_module, modules-same, body-same, new_bodies, fresh-end, type-none, HaveNoPath, IsFreshly, all-fresh}

module _ (fresh : List Name) where
  abbrev keep : Family → Bool
  keep = is_kept fresh

  abbrev drops : Family → Bool
  drops f = not (is_kept fresh f)

  old-kept : (fs : List Family) → AreOldFamilies fresh fs → AllKept keep fs
  old-kept [] h = tt
  old-kept (f ∷ fs) h = (ap not h.0, old-kept fs h.1)

  left-declared : (here : Path) (m : Name) (shape : Shape) → list_any (bytes_eq m) fresh ≡ true → HaveNoPath fresh shape → filter drops (map (declared_as Abstract (here ++ m ∷ [])) shape) ≡ map (declared_as Abstract (here ++ m ∷ [])) shape
  left-declared here m [] new none = refl
  left-declared here m (f ∷ shape) new none =
      ap (λ b. cond (not (not b)) (declared_as Abstract (here ++ m ∷ []) f ∷ filter drops (map (declared_as Abstract (here ++ m ∷ [])) shape)) (filter drops (map (declared_as Abstract (here ++ m ∷ [])) shape)))
      (ap (λ p. is_fresh fresh ((here ++ m ∷ []) ++ p)) none.0 ∙ ap (is_fresh fresh) (append-nil (here ++ m ∷ [])) ∙ fresh-end fresh here m new)
      ∙ ap (λ l. declared_as Abstract (here ++ m ∷ []) f ∷ l) (left-declared here m shape new none.1)

  module _ (plan : List (ℕ × Watched)) (layer : Name) (monitors : AreFreshMonitors fresh plan) (types : Types) (bodies : List (Name × Body)) where
    abbrev bodies' : List (Name × Body)
    bodies' = new_bodies fresh plan layer monitors types bodies

    abbrev told : List Placed → List Family
    told = flat_map (declared_at types)

    module _ (inside inside' : Path → Name → List Family) (placed : Path → Name → List Placed) (same : (p : Path) (name : Name) → AllKept keep (inside p name) → filter drops (inside' p name) ≡ told (placed p name)) (here : Path) where
      abbrev new_families : Item → List Family
      new_families = families_of_item types bodies' inside' here

      item-left : (item : Item) → AllKept keep (families_of_item types bodies inside here item) → filter drops (new_families (translated_item plan [] item)) ≡ told (placed_item plan types bodies placed here item)
      unfolding computing
      item-left (Declare role words of at) old = drop-all keep (families_of_item types bodies inside here (Declare role words of at)) old
      item-left (Instance words name args at) old =
          left-flat keep drops (λ word. Unit {0}) (λ word. inside (here ++ word.name ∷ []) name.name) (λ word. inside' (here ++ word.name ∷ []) name.name) (λ word. told (placed (here ++ word.name ∷ []) name.name)) (λ word u. same (here ++ word.name ∷ []) name.name) words (each-unit words) old
          ∙ sym (flat_map-flat_map (declared_at types) (λ word. placed (here ++ word.name ∷ []) name.name) words)
      item-left (Layer name body at) old = refl
      item-left (Forall' var over shape (more_of-Item body end_of-Item) at) old = refl
      item-left (Block' shape items) old = refl
      item-left (Claim name vars body at) old = refl
      item-left (Split name vars of pairs at) old = refl
      item-left (Using uses proves at) old = refl
      item-left (Act act) old = refl

      monitors-left : (around : Around) (names : List Name) → AllByRecursion (λ m. list_any (bytes_eq m) fresh ≡ true) names → (more : List Item) → filter drops (flat_map new_families more) ≡ [] →
          filter drops (flat_map new_families (map (λ m. Declare Abstract (word_of m ∷ []) (type_of around) 0) names ++ more)) ≡ flat_map (λ m. map (declared_as Abstract (here ++ m ∷ [])) (shape_of types (type_of around))) names
      monitors-left around [] h more none = none
      monitors-left around (m ∷ names) h more none =
          ap (λ l. filter drops (l ++ flat_map new_families (map (λ k. Declare Abstract (word_of k ∷ []) (type_of around) 0) names ++ more))) (append-nil (map (declared_as Abstract (here ++ m ∷ [])) (shape_of types (type_of around))))
          ∙ filter-append drops (map (declared_as Abstract (here ++ m ∷ [])) (shape_of types (type_of around))) (flat_map new_families (map (λ k. Declare Abstract (word_of k ∷ []) (type_of around) 0) names ++ more))
          ∙ ap (λ l. l ++ filter drops (flat_map new_families (map (λ k. Declare Abstract (word_of k ∷ []) (type_of around) 0) names ++ more))) (left-declared here m (shape_of types (type_of around)) h.0 (type-none fresh types around))
          ∙ ap (λ l. map (declared_as Abstract (here ++ m ∷ [])) (shape_of types (type_of around)) ++ l) (monitors-left around names h.1 more none)

      all-left : (ws : List (Around × Watched)) → AllByRecursion (IsFreshly fresh plan layer monitors types bodies) ws → (more : List Item) → filter drops (flat_map new_families more) ≡ [] →
          filter drops (flat_map new_families (flat_map declared ws ++ more)) ≡ told (map (λ w. (here, w)) ws)
      all-left [] h more none = none
      all-left (w ∷ ws) h more none =
          ap (λ l. filter drops (flat_map new_families l)) (append_assoc (declared w) (flat_map declared ws) more)
          ∙ ap (filter drops) (flat_map-append new_families (declared w) (flat_map declared ws ++ more))
          ∙ filter-append drops (flat_map new_families (declared w)) (flat_map new_families (flat_map declared ws ++ more))
          ∙ two _ _ _ _ (ap (λ l. filter drops (flat_map new_families l)) (sym (append-nil (declared w))) ∙ monitors-left w.0 w.1.monitors h.0 [] refl) (all-left ws h.1 more none)
        where
          two : (x y u v : List Family) → x ≡ y → u ≡ v → x ++ u ≡ y ++ v
          two x y u v e k = rw (e, k) refl

      behind-left : (ws : List (Around × Watched)) → AllByRecursion (IsFreshly fresh plan layer monitors types bodies) ws → filter drops (flat_map new_families (with_layer layer ws (flat_map declared ws))) ≡ told (map (λ w. (here, w)) ws)
      behind-left ws h = by_items (flat_map declared ws) refl
        where
          by_items : (items : List Item) → flat_map declared ws ≡ items → filter drops (flat_map new_families (with_layer layer ws items)) ≡ told (map (λ w. (here, w)) ws)
          by_items [] e = ap (λ l. filter drops (flat_map new_families l)) (sym e ∙ sym (append-nil (flat_map declared ws))) ∙ all-left ws h [] refl
          by_items (item ∷ more) e =
              ap (λ l. filter drops (flat_map new_families (l ++ Layer (word_of layer) (flat_map defined ws) 0 ∷ []))) (sym e) ∙ all-left ws h (Layer (word_of layer) (flat_map defined ws) 0 ∷ []) refl

    families-left : (n : ℕ) (here : Path) (name : Name) → AllKept keep (families_in types bodies n here name) → filter drops (families_in types bodies' n here name) ≡ told (placed_in plan types bodies n here name)
    families-left zero here name old = refl
    families-left (suc n) here name old =
        let inner = families_in types bodies n in
        let inner' = families_in types bodies' n in
        let items : List Item = (body_of types bodies name).items in
        let ws : List (Around × Watched) = flat_map (watched_in plan []) items in
        let fam' : Item → List Family = families_of_item types bodies' inner' here in
        ap (λ body. filter drops (flat_map fam' body.items)) (body-same plan layer types bodies name)
        ∙ ap (filter drops) (flat_map-append fam' (map (translated_item plan []) items) (with_layer layer ws (flat_map declared ws)))
        ∙ filter-append drops (flat_map fam' (map (translated_item plan []) items)) (flat_map fam' (with_layer layer ws (flat_map declared ws)))
        ∙ ap (λ l. filter drops (flat_map fam' (map (translated_item plan []) items)) ++ l)
        (behind-left inner inner' (placed_in plan types bodies n) (λ p other old_there. families-left n p other old_there) here ws (all-fresh fresh plan layer monitors types bodies items))
        ∙ ap (λ l. l ++ told (map (λ w. (here, w)) ws))
        (ap (filter drops) (flat_map-map fam' (translated_item plan []) items)
        ∙ left-flat keep drops (λ item. Unit {0}) (families_of_item types bodies inner here) (λ item. fam' (translated_item plan [] item)) (λ item. told (placed_item plan types bodies (placed_in plan types bodies n) here item))
        (λ item u. item-left inner inner' (placed_in plan types bodies n) (λ p other old_there. families-left n p other old_there) here item) items (each-unit items) old
        ∙ sym (flat_map-flat_map (declared_at types) (placed_item plan types bodies (placed_in plan types bodies n) here) items))
        ∙ sym (flat_map-append (declared_at types) (flat_map (placed_item plan types bodies (placed_in plan types bodies n) here) items) (map (λ w. (here, w)) ws))

pub monitors-placed : MonitorsArePlaced
monitors-placed fresh plan layer text monitors old =
    ap (λ bodies. filter (λ f. not (is_kept fresh f)) (families_in (types_from [] (map (translated_top plan layer) text.tops)) bodies (length bodies) [] main)) (modules-same plan layer text.tops)
    ∙ ap (λ types. filter (λ f. not (is_kept fresh f)) (families_in types (map (new_module plan layer) (modules text.tops)) (length (map (new_module plan layer) (modules text.tops))) [] main)) (types-same plan layer [] text.tops)
    ∙ ap (λ n. filter (λ f. not (is_kept fresh f)) (families_in (types_from [] text.tops) (map (new_module plan layer) (modules text.tops)) n [] main)) (length_map (new_module plan layer) (modules text.tops))
    ∙ families-left fresh plan layer monitors (types_from [] text.tops) (modules text.tops) (length (modules text.tops)) [] main (old-kept fresh (design_of text).families old)
