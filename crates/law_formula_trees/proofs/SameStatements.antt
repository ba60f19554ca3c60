-- The statements of a text and of its translation.
use Rattle.law_formula_trees.proofs.Lists.{AllKept, drop-flat, each-front, filter-mapped, keep-all, keep-flat, kept-mapped}
use Rattle.std.proofs.lemmas.List.Folds.{flat_map-map}
use Rattle.law_lists.proofs.Lists.{flat_map-flat_map, length_map}
use Rattle.law_lists.proofs.Each.{each_append}
use Rattle.law_lists.proofs.Booleans.{impossible}
use Rattle.std.proofs.Common.{◌≡◌, ℕ, zero, suc, List, [], ◌∷◌, ◌++◌, map, zip, filter, length, Option, Some, None, unwrap_or, Bool, true, false, not, ◌||◌, cond, refl, sym, ap, ◌∙◌, subst, append-nil, append_assoc}
use Rattle.std.specs.Str.{bytes_eq}
use Rattle.std.specs.List.{AllByRecursion, list_any, flat_map}
use Rattle.std.proofs.lemmas.List.Elements.{filter-append}
use Rattle.std.proofs.lemmas.Grind.{flat_map-append}
use Rattle.std.proofs.lemmas.Slice.Eq.{bytes_eq-Decides}
use Rattle.smv_core.specs.Values.{Name, Path}
use Rattle.smv_core.specs.Types.{Types, find_name, types_from}
use Rattle.smv_core.specs.Allowed.{is_layer, said_in}
use Rattle.smv_core.specs.FlatOrder.{Body, modules, main, Said, Met, said, claimed, role_of, connection, connections, within_binder, body_of, instance_met, item_met, items_met, met_in}
use Rattle.smv_core.specs.declared.tree.Word.{Word}
use Rattle.smv_core.specs.declared.tree.Role.TheVariants.{Plain, Abstract}
use Rattle.smv_core.specs.declared.tree.TypeExpr.{TypeExpr}
use Rattle.smv_core.specs.declared.tree.Expr.{Expr}
use Rattle.smv_core.specs.declared.tree.Stmt.{Stmt, Forall}
use Rattle.smv_core.specs.declared.tree.Item.{Item, Declare, Instance, Layer, Forall', Block, Block', Claim, Split, Using, Act, Row_of-Item, end_of-Item, more_of-Item, items-the_row-Item, items_hidden-the_row-Item-1}
use mathlib.Core.Former.{Count}
use Rattle.law_formulas.specs.Monitors.{Watched, Around, word_of, type_of, declared, defined, translated_item, translated_items, watched_in, with_layer, translated_body, translated_top}
use Rattle.law_watched_runs.specs.Extended.{is_other_layer}
use Rattle.law_formula_trees.specs.Placed.{AreFreshMonitors, AreOldFormals}
use Rattle.law_formula_trees.specs.Trees.{StatementsAreKept}
use Rattle.law_places.proofs.Computing.{computing}
use Rattle.law_formula_trees.proofs.SameTrees.{types-same, new_module, modules-same, body-same, new_bodies, all-fresh}

-- ---- statements

abbrev pub said_by : Option Name → Path → Stmt → Met
said_by layer here act = said (record { layer = layer; instance = here; act = act })

pub said-map : (layer : Option Name) (here : Path) (acts : List Stmt) → flat_map said_in (map (said_by layer here) acts) ≡ map (λ act. record { layer = layer; instance = here; act = act }) acts
said-map layer here [] = refl
said-map layer here (act ∷ acts) = ap (λ l. record { layer = layer; instance = here; act = act } ∷ l) (said-map layer here acts)

-- a statement inside one more binder
abbrev pub bind : Word → TypeExpr → Said → Said
bind var over x = record x { act = Forall var over x.act 0 }

pub said-bound : (var : Word) (over : TypeExpr) (met : List Met) → flat_map said_in (map (within_binder var over) met) ≡ map (bind var over) (flat_map said_in met)
said-bound var over [] = refl
said-bound var over (said x ∷ met) = ap (λ l. bind var over x ∷ l) (said-bound var over met)
said-bound var over (claimed c ∷ met) = said-bound var over met

module _ (types : Types) (bodies : List (Name × Body)) (inside : Path → Name → List Met) (here : Path) where
  abbrev items_in : Item → (n : Count) × Row_of-Item n
  items_in (Block' shape row) = (_, row)
  items_in _ = (_, end_of-Item)

  met-row : (n : _) (row : Row_of-Item n) → items_met types bodies inside here row ≡ flat_map (item_met types bodies inside here) (items-the_row-Item n row)
  met-row n end_of-Item = refl
  met-row n (more_of-Item item rest) = ap (λ l. item_met types bodies inside here item ++ l) (met-row _ rest)

  pub met-Block : (items : List Item) → item_met types bodies inside here (Block items) ≡ flat_map (item_met types bodies inside here) items
  met-Block items = met-row (items_in (Block items)).0 (items_in (Block items)).1 ∙ ap (flat_map (item_met types bodies inside here)) (items_hidden-the_row-Item-1 items)

module _ (fresh : List Name) (plan : List (ℕ × Watched)) (layer : Name) (monitors : AreFreshMonitors fresh plan) (types : Types) (bodies : List (Name × Body)) (formals : AreOldFormals fresh bodies) where
  abbrev pub bodies' : List (Name × Body)
  bodies' = new_bodies fresh plan layer monitors types bodies

  abbrev keep : Said → Bool
  keep = is_other_layer layer

  -- ---- connections

  abbrev IsOldName : Name → Type 0
  IsOldName a = list_any (bytes_eq a) fresh ≡ false

  role-declared : (a : Name) → IsOldName a → (around : Around) (names : List Name) → AllByRecursion (λ m. list_any (bytes_eq m) fresh ≡ true) names → (more : List Item) → role_of more a ≡ Plain →
      role_of (map (λ m. Declare Abstract (word_of m ∷ []) (type_of around) 0) names ++ more) a ≡ Plain
  role-declared a old around [] h more plain = plain
  role-declared a old around (m ∷ names) h more plain = by_test (bytes_eq m a) refl (role-declared a old around names h.1 more plain)
    where
      by_test : (t : Bool) → bytes_eq m a ≡ t → role_of (map (λ k. Declare Abstract (word_of k ∷ []) (type_of around) 0) names ++ more) a ≡ Plain →
          cond (t || false) Abstract (role_of (map (λ k. Declare Abstract (word_of k ∷ []) (type_of around) 0) names ++ more) a) ≡ Plain
      by_test false e k = k
      by_test true e k = impossible (list_any (bytes_eq a) fresh) (subst (λ x. list_any (bytes_eq x) fresh ≡ true) ((bytes_eq-Decides m a).0 e) h.0) old

  role-behind : (a : Name) → IsOldName a → (ws : List (Around × Watched)) → AllByRecursion (λ (w : Around × Watched). AllByRecursion (λ m. list_any (bytes_eq m) fresh ≡ true) w.1.monitors) ws → (more : List Item) → role_of more a ≡ Plain →
      role_of (flat_map declared ws ++ more) a ≡ Plain
  role-behind a old [] h more plain = plain
  role-behind a old (w ∷ ws) h more plain =
      ap (λ l. role_of l a) (append_assoc (declared w) (flat_map declared ws) more) ∙ role-declared a old w.0 w.1.monitors h.0 (flat_map declared ws ++ more) (role-behind a old ws h.1 more plain)

  role-with : (a : Name) (ws : List (Around × Watched)) (items : List Item) → role_of (items ++ Layer (word_of layer) (flat_map defined ws) 0 ∷ []) a ≡ Plain → role_of (with_layer layer ws items) a ≡ Plain
  role-with a ws [] h = refl
  role-with a ws (item ∷ items) h = h

  role-items : (a : Name) (items more : List Item) → role_of more a ≡ Plain → role_of (map (translated_item plan []) items ++ more) a ≡ role_of items a
  unfolding computing
  role-items a [] more plain = plain
  role-items a (Declare role words of at ∷ items) more plain = ap (λ r. cond (list_any (λ (word : Word). bytes_eq word.name a) words) role r) (role-items a items more plain)
  role-items a (Instance words name args at ∷ items) more plain = role-items a items more plain
  role-items a (Layer name body at ∷ items) more plain = role-items a items more plain
  role-items a (Forall' var over shape (more_of-Item body end_of-Item) at ∷ items) more plain = role-items a items more plain
  role-items a (Block' shape row ∷ items) more plain = role-items a items more plain
  role-items a (Claim name vars body at ∷ items) more plain = role-items a items more plain
  role-items a (Split name vars of pairs at ∷ items) more plain = role-items a items more plain
  role-items a (Using uses proves at ∷ items) more plain = role-items a items more plain
  role-items a (Act act ∷ items) more plain = role-items a items more plain

  role-same : (a : Name) → IsOldName a → (items : List Item) → role_of (translated_body plan layer items) a ≡ role_of items a
  role-same a old items =
      let ws : List (Around × Watched) = flat_map (watched_in plan []) items in
      role-items a items (with_layer layer ws (flat_map declared ws))
      (role-with a ws (flat_map declared ws) (role-behind a old ws (all-fresh fresh plan layer monitors types bodies items) (Layer (word_of layer) (flat_map defined ws) 0 ∷ []) refl))

  connected-same : (items : List Item) (n : Name) (words : List Word) → AllByRecursion (λ (word : Word). IsOldName word.name) words → (args : List Expr) →
      flat_map (λ (word, e). connection (role_of (translated_body plan layer items) word.name) n word.name e) (zip words args) ≡ flat_map (λ (word, e). connection (role_of items word.name) n word.name e) (zip words args)
  connected-same items n [] old args = refl
  connected-same items n (word ∷ words) old [] = refl
  connected-same items n (word ∷ words) old (e ∷ args) =
      two _ _ _ _ (ap (λ r. connection r n word.name e) (role-same word.name old.0 items)) (connected-same items n words old.1 args)
    where
      two : (x y u v : List Stmt) → x ≡ y → u ≡ v → x ++ u ≡ y ++ v
      two x y u v h k = rw (h, k) refl

  formals-old : (list : List (Name × Body)) → AreOldFormals fresh list → (name : Name) → AllByRecursion (λ (word : Word). IsOldName word.name) (unwrap_or (find_name list name) (record { formals = []; items = [] })).formals
  formals-old [] h name = tt
  formals-old ((other, body) ∷ list) h name = by_test (bytes_eq other name) (formals-old list h.1 name)
    where
      by_test : (t : Bool) → AllByRecursion (λ (word : Word). IsOldName word.name) (unwrap_or (find_name list name) (record { formals = []; items = [] })).formals →
          AllByRecursion (λ (word : Word). IsOldName word.name) (unwrap_or (cond t (Some body) (find_name list name)) (record { formals = []; items = [] })).formals
      by_test true k = h.0
      by_test false k = k

  pub connections-same : (name n : Name) (args : List Expr) → connections (body_of types bodies' name) n args ≡ connections (body_of types bodies name) n args
  connections-same name n args =
      ap (λ body. connections body n args) (body-same plan layer types bodies name)
      ∙ connected-same (body_of types bodies name).items n (body_of types bodies name).formals (formals-old bodies formals name) args

  -- ---- items

  module _ (inside inside' : Path → Name → List Met) (same : (p : Path) (name : Name) → AllKept keep (flat_map said_in (inside p name)) → filter keep (flat_map said_in (inside' p name)) ≡ flat_map said_in (inside p name)) (here : Path) where
    abbrev old_met : Item → List Met
    old_met = item_met types bodies inside here

    abbrev new_met : Item → List Met
    new_met = item_met types bodies' inside' here

    abbrev IsSame : Item → Item → Type 0
    IsSame item item' = AllKept keep (flat_map said_in (old_met item)) → filter keep (flat_map said_in (new_met item')) ≡ flat_map said_in (old_met item)

    instance-same : (name : Name) (args : List Expr) (n : Name) → AllKept keep (flat_map said_in (instance_met types bodies inside here name args n)) →
        filter keep (flat_map said_in (instance_met types bodies' inside' here name args n)) ≡ flat_map said_in (instance_met types bodies inside here name args n)
    instance-same name args n old =
        let acts : List Met = map (said_by None here) (connections (body_of types bodies name) n args) in
        let split : flat_map said_in (acts ++ inside (here ++ n ∷ []) name) ≡ flat_map said_in acts ++ flat_map said_in (inside (here ++ n ∷ []) name) = flat_map-append said_in acts (inside (here ++ n ∷ []) name) in
        let parts = each-front (λ y. keep y ≡ true) (flat_map said_in acts) (flat_map said_in (inside (here ++ n ∷ []) name)) (subst (AllKept keep) split old) in
        ap (λ l. filter keep (flat_map said_in (map (said_by None here) l ++ inside' (here ++ n ∷ []) name))) (connections-same name n args)
        ∙ ap (filter keep) (flat_map-append said_in acts (inside' (here ++ n ∷ []) name))
        ∙ filter-append keep (flat_map said_in acts) (flat_map said_in (inside' (here ++ n ∷ []) name))
        ∙ ap (λ l. l ++ filter keep (flat_map said_in (inside' (here ++ n ∷ []) name))) (keep-all keep (flat_map said_in acts) parts.0)
        ∙ ap (λ l. flat_map said_in acts ++ l) (same (here ++ n ∷ []) name parts.1)
        ∙ sym split

    mutual
      unfolding computing

      item-same : (around : Around) (item : Item) → IsSame item (translated_item plan around item)
      item-same around (Declare role words of at) old = refl
      item-same around (Instance words name args at) old =
          ap (filter keep) (flat_map-flat_map said_in (λ word. instance_met types bodies' inside' here name.name args word.name) words)
          ∙ keep-flat keep (λ word. flat_map said_in (instance_met types bodies inside here name.name args word.name)) (λ word. flat_map said_in (instance_met types bodies' inside' here name.name args word.name)) (λ word. instance-same name.name args word.name) words
          (subst (AllKept keep) (flat_map-flat_map said_in (λ word. instance_met types bodies inside here name.name args word.name) words) old)
          ∙ sym (flat_map-flat_map said_in (λ word. instance_met types bodies inside here name.name args word.name) words)
      item-same around (Layer name body at) old = keep-all keep (flat_map said_in (map (said_by (Some name.name) here) body)) old
      item-same around (Forall' var over shape (more_of-Item body end_of-Item) at) old =
          let inner_old = kept-mapped keep (bind var over) (λ x. refl) (flat_map said_in (old_met body)) (subst (AllKept keep) (said-bound var over (old_met body)) old) in
          ap (filter keep) (said-bound var over (new_met (translated_item plan (around ++ (var, over) ∷ []) body)))
          ∙ filter-mapped keep (bind var over) (λ x. refl) (flat_map said_in (new_met (translated_item plan (around ++ (var, over) ∷ []) body)))
          ∙ ap (map (bind var over)) (item-same (around ++ (var, over) ∷ []) body inner_old)
          ∙ sym (said-bound var over (old_met body))
      item-same around (Block' shape items) old = ap (λ met. filter keep (flat_map said_in met)) (met-Block types bodies' inside' here (translated_items plan around items)) ∙ items-same around items old
      item-same around (Claim name vars body at) old = refl
      item-same around (Split name vars of pairs at) old = refl
      item-same around (Using uses proves at) old = refl
      item-same around (Act act) old = keep-all keep _ old

      items-same : {m : _} (around : Around) (items : Row_of-Item m) → AllKept keep (flat_map said_in (items_met types bodies inside here items)) →
          filter keep (flat_map said_in (flat_map new_met (translated_items plan around items))) ≡ flat_map said_in (items_met types bodies inside here items)
      items-same around end_of-Item old = refl
      items-same around (more_of-Item item rest) old =
          let split = flat_map-append said_in (old_met item) (items_met types bodies inside here rest) in
          let parts = each-front (λ y. keep y ≡ true) (flat_map said_in (old_met item)) (flat_map said_in (items_met types bodies inside here rest)) (subst (AllKept keep) split old) in
          ap (filter keep) (flat_map-append said_in (new_met (translated_item plan around item)) (flat_map new_met (translated_items plan around rest)))
          ∙ filter-append keep (flat_map said_in (new_met (translated_item plan around item))) (flat_map said_in (flat_map new_met (translated_items plan around rest)))
          ∙ ap (λ l. l ++ filter keep (flat_map said_in (flat_map new_met (translated_items plan around rest)))) (item-same around item parts.0)
          ∙ ap (λ l. flat_map said_in (old_met item) ++ l) (items-same around rest parts.1)
          ∙ sym split

    -- ---- what stands behind the items

    abbrev IsDropped : Item → Type 0
    IsDropped item = filter keep (flat_map said_in (new_met item)) ≡ []

    pub layer-itself : is_layer (Some layer) (Some layer) ≡ true
    layer-itself = (bytes_eq-Decides layer layer).1 refl

    layer-dropped : (acts : List Stmt) → filter keep (map (λ act. record { layer = Some layer; instance = here; act = act }) acts) ≡ []
    layer-dropped [] = refl
    layer-dropped (act ∷ acts) =
        ap (λ t. cond (not t) (record { layer = Some layer; instance = here; act = act } ∷ filter keep (map (λ x. record { layer = Some layer; instance = here; act = x }) acts)) (filter keep (map (λ x. record { layer = Some layer; instance = here; act = x }) acts))) layer-itself
        ∙ layer-dropped acts

    monitors-dropped : (around : Around) (names : List Name) → AllByRecursion IsDropped (map (λ m. Declare Abstract (word_of m ∷ []) (type_of around) 0) names)
    monitors-dropped around [] = tt
    monitors-dropped around (m ∷ names) = (refl, monitors-dropped around names)

    declared-dropped : (ws : List (Around × Watched)) → AllByRecursion IsDropped (flat_map declared ws)
    declared-dropped [] = tt
    declared-dropped (w ∷ ws) = each_append IsDropped (declared w) (flat_map declared ws) (monitors-dropped w.0 w.1.monitors) (declared-dropped ws)

    behind-dropped : (ws : List (Around × Watched)) (items : List Item) → AllByRecursion IsDropped items → filter keep (flat_map (λ item. flat_map said_in (new_met item)) (with_layer layer ws items)) ≡ []
    behind-dropped ws [] h = refl
    behind-dropped ws (item ∷ more) h =
        drop-flat keep (λ x. flat_map said_in (new_met x)) ((item ∷ more) ++ Layer (word_of layer) (flat_map defined ws) 0 ∷ [])
        (each_append IsDropped (item ∷ more) (Layer (word_of layer) (flat_map defined ws) 0 ∷ []) h (ap (filter keep) (said-map (Some layer) here (flat_map defined ws)) ∙ layer-dropped (flat_map defined ws), tt))

  met-same : (n : ℕ) (here : Path) (name : Name) → AllKept keep (flat_map said_in (met_in types bodies n here name)) → filter keep (flat_map said_in (met_in types bodies' n here name)) ≡ flat_map said_in (met_in types bodies n here name)
  met-same zero here name old = refl
  met-same (suc n) here name old =
      let inner = met_in types bodies n in
      let inner' = met_in types bodies' n in
      let items : List Item = (body_of types bodies name).items in
      let ws : List (Around × Watched) = flat_map (watched_in plan []) items in
      let met' : Item → List Said = λ item. flat_map said_in (item_met types bodies' inner' here item) in
      ap (λ body. filter keep (flat_map said_in (flat_map (item_met types bodies' inner' here) body.items))) (body-same plan layer types bodies name)
      ∙ ap (filter keep) (flat_map-flat_map said_in (item_met types bodies' inner' here) (translated_body plan layer items))
      ∙ ap (filter keep) (flat_map-append met' (map (translated_item plan []) items) (with_layer layer ws (flat_map declared ws)))
      ∙ filter-append keep (flat_map met' (map (translated_item plan []) items)) (flat_map met' (with_layer layer ws (flat_map declared ws)))
      ∙ ap (λ l. filter keep (flat_map met' (map (translated_item plan []) items)) ++ l) (behind-dropped inner inner' (λ p other old_there. met-same n p other old_there) here ws (flat_map declared ws) (declared-dropped inner inner' (λ p other old_there. met-same n p other old_there) here ws))
      ∙ append-nil (filter keep (flat_map met' (map (translated_item plan []) items)))
      ∙ ap (filter keep) (flat_map-map met' (translated_item plan []) items)
      ∙ keep-flat keep (λ item. flat_map said_in (item_met types bodies inner here item)) (λ item. met' (translated_item plan [] item)) (λ item. item-same inner inner' (λ p other old_there. met-same n p other old_there) here [] item) items
      (subst (AllKept keep) (flat_map-flat_map said_in (item_met types bodies inner here) items) old)
      ∙ sym (flat_map-flat_map said_in (item_met types bodies inner here) items)

pub statements-kept : StatementsAreKept
statements-kept fresh plan layer text monitors formals old =
    ap (λ bodies. filter (is_other_layer layer) (flat_map said_in (met_in (types_from [] (map (translated_top plan layer) text.tops)) bodies (length bodies) [] main))) (modules-same plan layer text.tops)
    ∙ ap (λ types. filter (is_other_layer layer) (flat_map said_in (met_in types (map (new_module plan layer) (modules text.tops)) (length (map (new_module plan layer) (modules text.tops))) [] main))) (types-same plan layer [] text.tops)
    ∙ ap (λ n. filter (is_other_layer layer) (flat_map said_in (met_in (types_from [] text.tops) (map (new_module plan layer) (modules text.tops)) n [] main))) (length_map (new_module plan layer) (modules text.tops))
    ∙ met-same fresh plan layer monitors (types_from [] text.tops) (modules text.tops) formals (length (modules text.tops)) [] main old
