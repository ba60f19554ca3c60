-- What is met in flat order, and what becomes of it, keeps the places of the tree.
use Rattle.std.proofs.Common.{◌≤◌, ◌+◌, ℕ, zero, suc, List, [], ◌∷◌, ◌++◌, map, length, zip, Option, Some, None, Bool, true, false, cond, unwrap_or, arith}
use Rattle.std.specs.Str.{bytes_eq}
use Rattle.std.specs.List.{AllByRecursion, flat_map}
use Rattle.law_lists.proofs.Each.{each_flat_map, each_append}
use Rattle.smv_core.specs.Values.{Name, Path}
use Rattle.smv_core.specs.Types.{Types, types_from, find_name}
use Rattle.smv_core.specs.FlatOrder.{Body, modules, main, role_of, body_of}
use Rattle.smv_core.specs.declared.tree.Word.{Word}
use Rattle.smv_core.specs.declared.tree.Ref.{Ref}
use Rattle.smv_core.specs.declared.tree.Use.{Use}
use Rattle.smv_core.specs.declared.tree.Use.TheVariants.{Plain as PlainUse, Early, Keep}
use Rattle.smv_core.specs.declared.tree.Pair.{Pair}
use Rattle.smv_core.specs.declared.tree.Role.{Role}
use Rattle.smv_core.specs.declared.tree.Role.TheVariants.{Plain, Abstract, Input, Output}
use Rattle.smv_core.specs.declared.tree.Kind.TheVariants.{Comb}
use Rattle.smv_core.specs.declared.tree.TypeExpr.{TypeExpr}
use Rattle.smv_core.specs.declared.tree.Path.{roll-Path}
use Rattle.smv_core.specs.declared.tree.Expr.{Expr, Signal, Signal', Row_of-Part, items-the_row-Part}
use Rattle.smv_core.specs.declared.tree.Stmt.{Stmt}
use Rattle.smv_core.specs.declared.tree.Item.{Item, Declare, Instance, Layer, Forall', Block', Claim, Split, Using, Act, Row_of-Item, end_of-Item, more_of-Item}
use Rattle.smv_core.specs.declared.tree.Top.{Top}
use Rattle.smv_core.specs.declared.tree.Top.TheVariants.{SetType, Alias, Module}
use Rattle.smv_core.specs.declared.tree.Text.{Text}
use Rattle.smv_core.specs.declared.flat.FlatItem.{FlatItem}
use Rattle.smv_core.specs.declared.flat.FlatItem.TheVariants as item
use Rattle.smv_mentions.proofs.Computing.{computing}
use Rattle.law_designs.specs.Numbers.{Scope}
use Rattle.law_designs.specs.Statements.{first_token}
use Rattle.law_designs.specs.Entries.{Binders, Goal, claim, split, using, Entry, layer, statement, goal, inside_binder, formal, given_to, connection, connections, instance_entries, item_entries, items_entries, entries_in, entries}
use Rattle.law_designs.specs.Flattening.{flat_assignments, scope_in, within, flat_pair, flat_goal, whole, whole_use, prefix_at, with_places, layers_of, flat_entry, flatten}
use Rattle.law_designs.proofs.Faultless.{each-map}
use Rattle.law_fault_places.specs.TreePlaces.{WordIsWithin, WordsAreWithin, TypeIsWithin, ExprIsWithin, ExprsAreWithin, PartsAreWithin, PathIsWithin, StatementIsWithin, RefIsWithin, UseIsWithin, PairIsWithin, ItemIsWithin, ItemsAreWithin, TopIsWithin, TextIsWithin}
use Rattle.law_fault_places.proofs.TreeLists.{any-mapped}
use Rattle.law_fault_places.proofs.TreeForms.{row-parts, within-Signal, within-Assign, within-Forall}
use Rattle.law_fault_places.specs.FlatPlaces.{FlatPairIsWithin, FlatItemIsWithin, FlatTextIsWithin}
use Rattle.law_fault_places.proofs.Flattened.{first-within, expr-within, act-within}

module _ (n : ℕ) where
  -- ---- what is met in flat order

  abbrev GoalIsWithin : Goal → Type 0
  GoalIsWithin (claim word vars body at) = WordIsWithin n word × WordsAreWithin n vars × ExprIsWithin n body × (at ≤ n)
  GoalIsWithin (split word vars of pairs at) = WordIsWithin n word × WordsAreWithin n vars × RefIsWithin n of × AllByRecursion (PairIsWithin n) pairs × (at ≤ n)
  GoalIsWithin (using uses proves at) = AllByRecursion (UseIsWithin n) uses × AllByRecursion (RefIsWithin n) proves × (at ≤ n)

  abbrev EntryIsWithin : Entry → Type 0
  EntryIsWithin (layer name) = Unit {0}
  EntryIsWithin (statement x) = StatementIsWithin n x.act
  EntryIsWithin (goal instance binders g) = GoalIsWithin g

  inside-within : (word : Word) (over : TypeExpr) → WordIsWithin n word → TypeIsWithin n over → (e : Entry) → EntryIsWithin e → EntryIsWithin (inside_binder word over e)
  inside-within word over v o (layer name) h = tt
  inside-within word over v o (statement x) h = within-Forall n word over x.act 0 (omega arith) v o h
  inside-within word over v o (goal instance binders g) h = h

  -- ---- connections

  formal-within : (k a : Name) (at : ℕ) → at ≤ n → PathIsWithin n (formal k a at)
  unfolding computing
  formal-within k a at h = (h, (h, (h, tt)))

  path-within : (m : _) (row : Row_of-Part m) (at : ℕ) → at ≤ n → PartsAreWithin n row → PathIsWithin n (roll-Path (record { parts = items-the_row-Part m row; at = at }))
  unfolding computing
  path-within m row at a h = (a, row-parts n m row h)

  given-within : (k a : Name) (e : Expr) → ExprIsWithin n e → AllByRecursion (StatementIsWithin n) (given_to k a e)
  given-within k a (Signal' shape parts at) h =
      (within-Assign n Comb (roll-Path (record { parts = items-the_row-Part _ parts; at = at })) (Signal (formal k a at)) at h.0 (path-within _ parts at h.0 h.1) (within-Signal n (formal k a at) (formal-within k a at h.0)), tt)
  given-within k a _ h = tt

  connection-within : (role : Role) (k a : Name) (e : Expr) → ExprIsWithin n e → AllByRecursion (StatementIsWithin n) (connection role k a e)
  connection-within Input k a e h = let le = first-within n e h in (within-Assign n Comb (formal k a (first_token e)) e (first_token e) le (formal-within k a (first_token e) le) h, tt)
  connection-within Output k a e h = given-within k a e h
  connection-within Plain k a e h = tt
  connection-within Abstract k a e h = tt

  zipped-within : (words : List Word) (args : List Expr) → ExprsAreWithin n args → AllByRecursion (λ (p : Word × Expr). ExprIsWithin n p.1) (zip words args)
  zipped-within [] args h = tt
  zipped-within (word ∷ words) [] h = tt
  zipped-within (word ∷ words) (e ∷ args) h = (h.0, zipped-within words args h.1)

  connections-within : (body : Body) (k : Name) (args : List Expr) → ExprsAreWithin n args → AllByRecursion (StatementIsWithin n) (connections body k args)
  connections-within body k args h =
      each_flat_map (λ (p : Word × Expr). ExprIsWithin n p.1) (StatementIsWithin n) (λ (p : Word × Expr). connection (role_of body.items p.0.name) k p.0.name p.1) (λ p own. connection-within (role_of body.items p.0.name) k p.0.name p.1 own)
      (zip body.formals args) (zipped-within body.formals args h)

  -- ---- items of the tree

  module _ (types : Types) (bodies : List (Name × Body)) where
    module _ (inside : Path → Name → List Entry) (here : Path) where
      -- statements of a layer or of connections
      said-within : (number : Option Name) (acts : List Stmt) → AllByRecursion (StatementIsWithin n) acts →
          AllByRecursion EntryIsWithin (map (λ act. statement (record { layer = number; instance = here; act = act })) acts)
      said-within number [] h = tt
      said-within number (act ∷ acts) h = (h.0, said-within number acts h.1)

      instances-within : ((there : Path) (name : Name) → AllByRecursion EntryIsWithin (inside there name)) → (name : Name) (args : List Expr) → ExprsAreWithin n args → (words : List Word) →
          AllByRecursion EntryIsWithin (flat_map (λ (word : Word). instance_entries types bodies inside here name args word.name) words)
      instances-within all name args h [] = tt
      instances-within all name args h (word ∷ words) =
          each_append EntryIsWithin (instance_entries types bodies inside here name args word.name) (flat_map (λ (word : Word). instance_entries types bodies inside here name args word.name) words)
          (each_append EntryIsWithin (map (λ act. statement (record { layer = None; instance = here; act = act })) (connections (body_of types bodies name) word.name args)) (inside (here ++ word.name ∷ []) name)
          (said-within None (connections (body_of types bodies name) word.name args) (connections-within (body_of types bodies name) word.name args h)) (all (here ++ word.name ∷ []) name))
          (instances-within all name args h words)

      mutual
        item-within : ((there : Path) (name : Name) → AllByRecursion EntryIsWithin (inside there name)) → (x : Item) → ItemIsWithin n x → AllByRecursion EntryIsWithin (item_entries types bodies inside here x)
        item-within all (Declare role words of at) h = tt
        item-within all (Instance words name args at) h = instances-within all name.name args h.2 words
        item-within all (Layer name body at) h = (tt, said-within (Some name.name) body h.1)
        item-within all (Forall' var over shape (more_of-Item body end_of-Item) at) h =
            each-map EntryIsWithin EntryIsWithin (inside_binder var over) (inside-within var over h.1 h.2) (item_entries types bodies inside here body) (item-within all body h.3)
        item-within all (Block' shape items) h = items-within all items h
        item-within all (Claim name vars body at) h = (h, tt)
        item-within all (Split name vars of pairs at) h = (h, tt)
        item-within all (Using uses proves at) h = (h, tt)
        item-within all (Act act) h = (h, tt)

        items-within : {m : _} → ((there : Path) (name : Name) → AllByRecursion EntryIsWithin (inside there name)) → (row : Row_of-Item m) → ItemsAreWithin n row → AllByRecursion EntryIsWithin (items_entries types bodies inside here row)
        items-within all end_of-Item h = tt
        items-within all (more_of-Item x rest) h = each_append EntryIsWithin (item_entries types bodies inside here x) (items_entries types bodies inside here rest) (item-within all x h.0) (items-within all rest h.1)

    entries-within : ((name : Name) → AllByRecursion (ItemIsWithin n) (body_of types bodies name).items) → (k : ℕ) (here : Path) (name : Name) → AllByRecursion EntryIsWithin (entries_in types bodies k here name)
    entries-within items zero here name = tt
    entries-within items (suc k) here name =
        each_flat_map (ItemIsWithin n) EntryIsWithin (item_entries types bodies (entries_in types bodies k) here) (item-within (entries_in types bodies k) here (entries-within items k)) (body_of types bodies name).items (items name)

    modules-within : (tops : List Top) → AllByRecursion (TopIsWithin n) tops → (name : Name) → AllByRecursion (ItemIsWithin n) (body_of types (modules tops) name).items
    modules-within [] h name = tt
    modules-within (SetType word ordered span at ∷ tops) h name = modules-within tops h.1 name
    modules-within (Alias word of at ∷ tops) h name = modules-within tops h.1 name
    modules-within (Module word formals body at ∷ tops) h name = by_test (bytes_eq word.name name) (find_name (modules tops) name) h.0.2 (modules-within tops h.1 name)
      where
        by_test : (b : Bool) (o : Option Body) → AllByRecursion (ItemIsWithin n) body → AllByRecursion (ItemIsWithin n) (unwrap_or o (record { formals = []; items = [] })).items →
            AllByRecursion (ItemIsWithin n) (unwrap_or (cond b (Some (record { formals = formals; items = body })) o) (record { formals = []; items = [] })).items
        by_test true o own rest = own
        by_test false o own rest = rest

  text-within : (text : Text) → TextIsWithin n text → AllByRecursion EntryIsWithin (entries text)
  text-within text h =
      entries-within (types_from [] text.tops) (modules text.tops) (modules-within (types_from [] text.tops) (modules text.tops) text.tops h) (length (modules text.tops)) [] main

  -- ---- items of the flattened text

  module _ (scope : Scope) where
    whole-within : (of : Ref) → RefIsWithin n of → RefIsWithin n (whole scope of)
    whole-within of h = (each_append (WordIsWithin n) (prefix_at scope of.at) of.path (any-mapped (WordIsWithin n) (λ (name : Name). record { name = name; at = of.at }) (λ name. h.3) scope.instance) h.0, h.1, h.2, h.3)

    use-within : (x : Use) → UseIsWithin n x → UseIsWithin n (whole_use scope x)
    use-within (PlainUse of) h = whole-within of h
    use-within (Early of) h = whole-within of h
    use-within (Keep set names at) h = h

    pairs-within : (binders : Binders) (pairs : List Pair) → AllByRecursion (PairIsWithin n) pairs → AllByRecursion (FlatPairIsWithin n) (map (flat_pair scope (within [] binders)) pairs)
    pairs-within binders [] h = tt
    pairs-within binders (pair ∷ pairs) h = ((expr-within n scope (within [] binders) pair.left h.0.0, h.0.1, h.0.2), pairs-within binders pairs h.1)

    goal-within : (binders : Binders) (g : Goal) → GoalIsWithin g → FlatItemIsWithin n (flat_goal scope binders g)
    goal-within binders (claim word vars body at) h = (h.1, expr-within n scope (within [] binders) body h.2, h.3)
    goal-within binders (split word vars of pairs at) h = (h.1, whole-within of h.2, pairs-within binders pairs h.3, h.4)
    goal-within binders (using uses proves at) h =
        (each-map (UseIsWithin n) (UseIsWithin n) (whole_use scope) use-within uses h.0, each-map (RefIsWithin n) (RefIsWithin n) (whole scope) whole-within proves h.1, h.2)

  entry-within : (text : Text) (layers : List Name) (e : Entry) → EntryIsWithin e → AllByRecursion (FlatItemIsWithin n) (flat_entry text layers e)
  entry-within text layers (layer name) h = tt
  entry-within text layers (statement x) h = (act-within n (scope_in text x.instance) [] x.act h, tt)
  entry-within text layers (goal instance binders g) h = (goal-within (scope_in text instance) binders g h, tt)

  places-within : (k : ℕ) (items : List FlatItem) → AllByRecursion (FlatItemIsWithin n) items → AllByRecursion (FlatItemIsWithin n) (with_places k items)
  places-within k [] h = tt
  places-within k (item.Act number act ∷ items) h = (h.0, places-within (k + length (flat_assignments act)) items h.1)
  places-within k (item.Claim c ∷ items) h = (h.0, places-within (k + 1) items h.1)
  places-within k (item.Split s ∷ items) h = (h.0, places-within k items h.1)
  places-within k (item.Using u ∷ items) h = (h.0, places-within k items h.1)

  -- the flattened text keeps the places of its tree
  pub flatten-within : (text : Text) → TextIsWithin n text → FlatTextIsWithin n (flatten text)
  flatten-within text h =
      let layers = layers_of (entries text) in
      places-within 0 (flat_map (flat_entry text layers) (entries text)) (each_flat_map EntryIsWithin (FlatItemIsWithin n) (flat_entry text layers) (entry-within text layers) (entries text) (text-within text h))
