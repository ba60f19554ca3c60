-- The statements of the layer of a translation.
use Rattle.law_formula_trees.proofs.Lists.{AllKept, drop-all, each-front, each-unit, filter-mapped, front-empty, kept-mapped, left-flat, map-empty}
use Rattle.std.proofs.Math.Bool.{not-not}
use Rattle.std.proofs.lemmas.List.Folds.{flat_map-map}
use Rattle.std.proofs.lemmas.List.{map-append}
use Rattle.law_lists.proofs.Lists.{flat_map-flat_map, length_map}
use Rattle.std.proofs.Common.{◌≡◌, ℕ, zero, suc, List, [], ◌∷◌, ◌++◌, map, filter, length, Some, None, unwrap_or, Bool, true, false, not, cond, refl, sym, ap, ◌∙◌, subst, append-nil, append_assoc}
use Rattle.std.specs.Str.{bytes_eq}
use Rattle.std.specs.List.{AllByRecursion, flat_map}
use Rattle.std.proofs.lemmas.List.Elements.{filter-append}
use Rattle.std.proofs.lemmas.Grind.{flat_map-append}
use Rattle.std.proofs.lemmas.Slice.Eq.{bytes_eq-Decides}
use Rattle.smv_core.specs.Values.{Name, Path}
use Rattle.smv_core.specs.Types.{Types, find_name, types_from}
use Rattle.smv_core.specs.Allowed.{is_layer, said_in}
use Rattle.smv_core.specs.FlatOrder.{Body, modules, main, Said, Met, connections, body_of, instance_met, item_met, items_met, met_in}
use Rattle.smv_core.specs.declared.tree.Role.TheVariants.{Abstract}
use Rattle.smv_core.specs.declared.tree.Expr.{Expr}
use Rattle.smv_core.specs.declared.tree.Stmt.{Stmt}
use Rattle.smv_core.specs.declared.tree.Item.{Item, Declare, Instance, Layer, Forall', Block', Claim, Split, Using, Act, Row_of-Item, end_of-Item, more_of-Item}
use Rattle.law_formulas.specs.Monitors.{Watched, Around, Stage, outset, under, names_around, definitions, defining, word_of, type_of, declared, defined, translated_item, translated_items, watched_in, with_layer, translated_body, translated_top}
use Rattle.law_formulas.specs.Formulas.{Formula, now, next, when, weak}
use Rattle.law_watched_runs.specs.Extended.{is_other_layer}
use Rattle.law_formula_trees.specs.Placed.{AreFreshMonitors, AreOldFormals, HasNoInstance, HaveNoInstance, HoldsNoInstance, AreFlat, Placed, placed_item, placed_in, stated}
use Rattle.law_formula_trees.specs.Trees.{LayerIsPlaced}
use Rattle.law_places.proofs.Computing.{computing}
use Rattle.law_formula_trees.proofs.SameTrees.{types-same, new_module, modules-same, body-same, new_bodies}
use Rattle.law_formula_trees.proofs.SameStatements.{said_by, bind, said-map, said-bound, met-Block, connections-same}

-- without monitors there are no definitions
pub no-definitions : (vars : List Name) (stage : Stage) (f : Formula) → definitions vars [] stage f ≡ []
no-definitions vars stage (now e) = refl
no-definitions vars stage (next at f) = refl
no-definitions vars stage (when c f) = no-definitions vars (under stage c) f
no-definitions vars stage (weak p q) = refl

nothing-defined : (ws : List (Around × Watched)) → flat_map declared ws ≡ [] → flat_map defined ws ≡ []
nothing-defined [] h = refl
nothing-defined (w ∷ ws) h =
    let parts = front-empty (declared w) (flat_map declared ws) h in
    let names : w.1.monitors ≡ [] = map-empty (λ m. Declare Abstract (word_of m ∷ []) (type_of w.0) 0) w.1.monitors parts.0 in
    ap (λ l. flat_map (defining w.0) (definitions (names_around w.0) l outset w.1.formula) ++ flat_map defined ws) names
    ∙ ap (λ l. flat_map (defining w.0) l ++ flat_map defined ws) (no-definitions (names_around w.0) outset w.1.formula)
    ∙ nothing-defined ws parts.1

module _ (fresh : List Name) (plan : List (ℕ × Watched)) (layer : Name) (monitors : AreFreshMonitors fresh plan) (types : Types) (bodies : List (Name × Body)) (formals : AreOldFormals fresh bodies) (flat : AreFlat bodies) where
  abbrev bodies' : List (Name × Body)
  bodies' = new_bodies fresh plan layer monitors types bodies

  abbrev keep : Said → Bool
  keep = is_other_layer layer

  abbrev drops : Said → Bool
  drops x = not (is_other_layer layer x)

  abbrev told : List Placed → List Said
  told = flat_map (stated layer)

  items-flat : (list : List (Name × Body)) → AreFlat list → (name : Name) → AllByRecursion HoldsNoInstance (unwrap_or (find_name list name) (record { formals = []; items = [] })).items
  items-flat [] h name = tt
  items-flat ((other, body) ∷ list) h name = by_test (bytes_eq other name) (items-flat list h.1 name)
    where
      by_test : (t : Bool) → AllByRecursion HoldsNoInstance (unwrap_or (find_name list name) (record { formals = []; items = [] })).items →
          AllByRecursion HoldsNoInstance (unwrap_or (cond t (Some body) (find_name list name)) (record { formals = []; items = [] })).items
      by_test true k = h.0
      by_test false k = k

  module _ (inside inside' : Path → Name → List Met) (placed : Path → Name → List Placed)
      (same : (p : Path) (name : Name) → AllKept keep (flat_map said_in (inside p name)) → filter drops (flat_map said_in (inside' p name)) ≡ told (placed p name)) (here : Path) where
    abbrev old_met : Item → List Met
    old_met = item_met types bodies inside here

    abbrev new_met : Item → List Met
    new_met = item_met types bodies' inside' here

    instance-left : (name : Name) (args : List Expr) (n : Name) → AllKept keep (flat_map said_in (instance_met types bodies inside here name args n)) →
        filter drops (flat_map said_in (instance_met types bodies' inside' here name args n)) ≡ told (placed (here ++ n ∷ []) name)
    instance-left name args n old =
        let acts : List Met = map (said_by None here) (connections (body_of types bodies name) n args) in
        let parts = each-front (λ y. keep y ≡ true) (flat_map said_in acts) (flat_map said_in (inside (here ++ n ∷ []) name)) (subst (AllKept keep) (flat_map-append said_in acts (inside (here ++ n ∷ []) name)) old) in
        ap (λ l. filter drops (flat_map said_in (map (said_by None here) l ++ inside' (here ++ n ∷ []) name))) (connections-same fresh plan layer monitors types bodies formals name n args)
        ∙ ap (filter drops) (flat_map-append said_in acts (inside' (here ++ n ∷ []) name))
        ∙ filter-append drops (flat_map said_in acts) (flat_map said_in (inside' (here ++ n ∷ []) name))
        ∙ ap (λ l. l ++ filter drops (flat_map said_in (inside' (here ++ n ∷ []) name))) (drop-all keep (flat_map said_in acts) parts.0)
        ∙ same (here ++ n ∷ []) name parts.1

    mutual
      unfolding computing

      inner-left : (around : Around) (item : Item) → HasNoInstance item → AllKept keep (flat_map said_in (old_met item)) → filter drops (flat_map said_in (new_met (translated_item plan around item))) ≡ []
      inner-left around (Declare role words of at) none old = refl
      inner-left around (Instance words name args at) none old = absurd none
      inner-left around (Layer name body at) none old = drop-all keep (flat_map said_in (map (said_by (Some name.name) here) body)) old
      inner-left around (Forall' var over shape (more_of-Item body end_of-Item) at) none old =
          let inner_old = kept-mapped keep (bind var over) (λ x. refl) (flat_map said_in (old_met body)) (subst (AllKept keep) (said-bound var over (old_met body)) old) in
          ap (filter drops) (said-bound var over (new_met (translated_item plan (around ++ (var, over) ∷ []) body)))
          ∙ filter-mapped drops (bind var over) (λ x. refl) (flat_map said_in (new_met (translated_item plan (around ++ (var, over) ∷ []) body)))
          ∙ ap (map (bind var over)) (inner-left (around ++ (var, over) ∷ []) body none inner_old)
      inner-left around (Block' shape items) none old = ap (λ met. filter drops (flat_map said_in met)) (met-Block types bodies' inside' here (translated_items plan around items)) ∙ inners-left around items none old
      inner-left around (Claim name vars body at) none old = refl
      inner-left around (Split name vars of pairs at) none old = refl
      inner-left around (Using uses proves at) none old = refl
      inner-left around (Act act) none old = drop-all keep (flat_map said_in (item_met types bodies inside here (Act act))) old

      inners-left : {m : _} (around : Around) (items : Row_of-Item m) → HaveNoInstance items → AllKept keep (flat_map said_in (items_met types bodies inside here items)) →
          filter drops (flat_map said_in (flat_map new_met (translated_items plan around items))) ≡ []
      inners-left around end_of-Item none old = refl
      inners-left around (more_of-Item item rest) none old =
          let parts = each-front (λ y. keep y ≡ true) (flat_map said_in (old_met item)) (flat_map said_in (items_met types bodies inside here rest)) (subst (AllKept keep) (flat_map-append said_in (old_met item) (items_met types bodies inside here rest)) old) in
          ap (filter drops) (flat_map-append said_in (new_met (translated_item plan around item)) (flat_map new_met (translated_items plan around rest)))
          ∙ filter-append drops (flat_map said_in (new_met (translated_item plan around item))) (flat_map said_in (flat_map new_met (translated_items plan around rest)))
          ∙ ap (λ l. l ++ filter drops (flat_map said_in (flat_map new_met (translated_items plan around rest)))) (inner-left around item none.0 parts.0)
          ∙ inners-left around rest none.1 parts.1

    item-left : (item : Item) → HoldsNoInstance item → AllKept keep (flat_map said_in (old_met item)) → filter drops (flat_map said_in (new_met (translated_item plan [] item))) ≡ told (placed_item plan types bodies placed here item)
    unfolding computing
    item-left (Instance words name args at) none old =
        ap (filter drops) (flat_map-flat_map said_in (λ word. instance_met types bodies' inside' here name.name args word.name) words)
        ∙ left-flat keep drops (λ word. Unit {0}) (λ word. flat_map said_in (instance_met types bodies inside here name.name args word.name)) (λ word. flat_map said_in (instance_met types bodies' inside' here name.name args word.name))
        (λ word. told (placed (here ++ word.name ∷ []) name.name)) (λ word u. instance-left name.name args word.name) words (each-unit words)
        (subst (AllKept keep) (flat_map-flat_map said_in (λ word. instance_met types bodies inside here name.name args word.name) words) old)
        ∙ sym (flat_map-flat_map (stated layer) (λ word. placed (here ++ word.name ∷ []) name.name) words)
    item-left (Declare role words of at) none old = inner-left [] (Declare role words of at) none old
    item-left (Layer name body at) none old = inner-left [] (Layer name body at) none old
    item-left (Forall' var over shape (more_of-Item body end_of-Item) at) none old = inner-left [] (Forall' var over shape (more_of-Item body end_of-Item) at) none old
    item-left (Block' shape items) none old = inner-left [] (Block' shape items) none old
    item-left (Claim name vars body at) none old = refl
    item-left (Split name vars of pairs at) none old = refl
    item-left (Using uses proves at) none old = refl
    item-left (Act act) none old = inner-left [] (Act act) none old

    -- ---- what stands behind the items

    layer-itself : is_layer (Some layer) (Some layer) ≡ true
    layer-itself = (bytes_eq-Decides layer layer).1 refl

    layer-left : (acts : List Stmt) → filter drops (map (λ act. record { layer = Some layer; instance = here; act = act }) acts) ≡ map (λ act. record { layer = Some layer; instance = here; act = act }) acts
    layer-left [] = refl
    layer-left (act ∷ acts) =
        ap (λ t. cond t (record { layer = Some layer; instance = here; act = act } ∷ filter drops (map (λ x. record { layer = Some layer; instance = here; act = x }) acts)) (filter drops (map (λ x. record { layer = Some layer; instance = here; act = x }) acts))) (not-not (is_layer (Some layer) (Some layer)) ∙ layer-itself)
        ∙ ap (λ l. record { layer = Some layer; instance = here; act = act } ∷ l) (layer-left acts)

    -- declarations say nothing
    said-monitors : (around : Around) (names : List Name) (more : List Item) → flat_map (λ item. flat_map said_in (new_met item)) (map (λ m. Declare Abstract (word_of m ∷ []) (type_of around) 0) names ++ more) ≡ flat_map (λ item. flat_map said_in (new_met item)) more
    said-monitors around [] more = refl
    said-monitors around (m ∷ names) more = said-monitors around names more

    told-own : (ws : List (Around × Watched)) → told (map (λ w. (here, w)) ws) ≡ map (λ act. record { layer = Some layer; instance = here; act = act }) (flat_map defined ws)
    told-own [] = refl
    told-own (w ∷ ws) = ap (λ l. stated layer (here, w) ++ l) (told-own ws) ∙ sym (map-append (λ act. record { layer = Some layer; instance = here; act = act }) (defined w) (flat_map defined ws))

    declared-silent : (ws : List (Around × Watched)) (more : List Item) → flat_map (λ item. flat_map said_in (new_met item)) (flat_map declared ws ++ more) ≡ flat_map (λ item. flat_map said_in (new_met item)) more
    declared-silent [] more = refl
    declared-silent (w ∷ ws) more =
        ap (flat_map (λ item. flat_map said_in (new_met item))) (append_assoc (declared w) (flat_map declared ws) more)
        ∙ said-monitors w.0 w.1.monitors (flat_map declared ws ++ more) ∙ declared-silent ws more

    abbrev as_said : Stmt → Said
    as_said act = record { layer = Some layer; instance = here; act = act }

    behind-left : (ws : List (Around × Watched)) → filter drops (flat_map (λ item. flat_map said_in (new_met item)) (with_layer layer ws (flat_map declared ws))) ≡ told (map (λ w. (here, w)) ws)
    behind-left ws = by_items (flat_map declared ws) refl
      where
        by_items : (items : List Item) → flat_map declared ws ≡ items → filter drops (flat_map (λ item. flat_map said_in (new_met item)) (with_layer layer ws items)) ≡ told (map (λ w. (here, w)) ws)
        by_items [] h = sym (told-own ws ∙ ap (map (λ act. record { layer = Some layer; instance = here; act = act })) (nothing-defined ws h))
        by_items (item ∷ more) h =
            ap (λ l. filter drops (flat_map (λ i. flat_map said_in (new_met i)) (l ++ Layer (word_of layer) (flat_map defined ws) 0 ∷ []))) (sym h)
            ∙ ap (filter drops) (declared-silent ws (Layer (word_of layer) (flat_map defined ws) 0 ∷ []))
            ∙ ap (filter drops) (append-nil (flat_map said_in (map (said_by (Some layer) here) (flat_map defined ws))) ∙ said-map (Some layer) here (flat_map defined ws))
            ∙ layer-left (flat_map defined ws)
            ∙ sym (told-own ws)

  met-left : (n : ℕ) (here : Path) (name : Name) → AllKept keep (flat_map said_in (met_in types bodies n here name)) → filter drops (flat_map said_in (met_in types bodies' n here name)) ≡ told (placed_in plan types bodies n here name)
  met-left zero here name old = refl
  met-left (suc n) here name old =
      let inner = met_in types bodies n in
      let inner' = met_in types bodies' n in
      let items : List Item = (body_of types bodies name).items in
      let ws : List (Around × Watched) = flat_map (watched_in plan []) items in
      let met' : Item → List Said = λ item. flat_map said_in (item_met types bodies' inner' here item) in
      ap (λ body. filter drops (flat_map said_in (flat_map (item_met types bodies' inner' here) body.items))) (body-same plan layer types bodies name)
      ∙ ap (filter drops) (flat_map-flat_map said_in (item_met types bodies' inner' here) (translated_body plan layer items))
      ∙ ap (filter drops) (flat_map-append met' (map (translated_item plan []) items) (with_layer layer ws (flat_map declared ws)))
      ∙ filter-append drops (flat_map met' (map (translated_item plan []) items)) (flat_map met' (with_layer layer ws (flat_map declared ws)))
      ∙ ap (λ l. filter drops (flat_map met' (map (translated_item plan []) items)) ++ l) (behind-left inner inner' (placed_in plan types bodies n) (λ p other old_there. met-left n p other old_there) here ws)
      ∙ ap (λ l. l ++ told (map (λ w. (here, w)) ws))
      (ap (filter drops) (flat_map-map met' (translated_item plan []) items)
      ∙ left-flat keep drops HoldsNoInstance (λ item. flat_map said_in (item_met types bodies inner here item)) (λ item. met' (translated_item plan [] item)) (λ item. told (placed_item plan types bodies (placed_in plan types bodies n) here item))
      (λ item none. item-left inner inner' (placed_in plan types bodies n) (λ p other old_there. met-left n p other old_there) here item none) items (items-flat bodies flat name)
      (subst (AllKept keep) (flat_map-flat_map said_in (item_met types bodies inner here) items) old)
      ∙ sym (flat_map-flat_map (stated layer) (placed_item plan types bodies (placed_in plan types bodies n) here) items))
      ∙ sym (flat_map-append (stated layer) (flat_map (placed_item plan types bodies (placed_in plan types bodies n) here) items) (map (λ w. (here, w)) ws))

pub layer-placed : LayerIsPlaced
layer-placed fresh plan layer text monitors formals flat old =
    ap (λ bodies. filter (λ x. not (is_other_layer layer x)) (flat_map said_in (met_in (types_from [] (map (translated_top plan layer) text.tops)) bodies (length bodies) [] main))) (modules-same plan layer text.tops)
    ∙ ap (λ types. filter (λ x. not (is_other_layer layer x)) (flat_map said_in (met_in types (map (new_module plan layer) (modules text.tops)) (length (map (new_module plan layer) (modules text.tops))) [] main))) (types-same plan layer [] text.tops)
    ∙ ap (λ n. filter (λ x. not (is_other_layer layer x)) (flat_map said_in (met_in (types_from [] text.tops) (map (new_module plan layer) (modules text.tops)) n [] main))) (length_map (new_module plan layer) (modules text.tops))
    ∙ met-left fresh plan layer monitors (types_from [] text.tops) (modules text.tops) formals flat (length (modules text.tops)) [] main old
